-- The bits so far are those of the bitmaps so far.
use Rattle.std.proofs.Common.{◌≡◌, take}
use Rattle.ds_image_parts.specs.Parts.{bits_in}
use Rattle.ds_image.proofs.owners.bits_in.Given as goal

abbrev pub invariant-loop-map : goal.invariant-loop-map
invariant-loop-map l = l.bits.items ≡ bits_in (take l.map-index l.maps)

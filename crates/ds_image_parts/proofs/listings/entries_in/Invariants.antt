-- The entries so far are those of the sub-blocks so far.
use Rattle.std.proofs.Common.{◌≡◌, take}
use Rattle.ds_image_parts.specs.Objects.{used_rooms}
use Rattle.ds_image_parts.proofs.listings.entries_in.Given as goal

abbrev pub invariant-loop-number : goal.invariant-loop-number
invariant-loop-number _ l = l.entries.items ≡ used_rooms l.parts (take l.number-index l.subs)

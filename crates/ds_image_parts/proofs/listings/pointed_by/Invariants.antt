-- The addresses so far are those of the pointer blocks so far.
use Rattle.std.proofs.Common.{◌≡◌, take}
use Rattle.std.specs.List.{flat_map}
use Rattle.ds_image_parts.specs.Objects.{addresses_in}
use Rattle.ds_image_parts.specs.Parts.{part_at}
use Rattle.ds_image_parts.proofs.listings.pointed_by.Given as goal

abbrev pub invariant-loop-number : goal.invariant-loop-number
invariant-loop-number _ l = l.addresses.items ≡ flat_map (λ n. addresses_in (part_at l.parts.ptrs n)) (take l.number-index l.ptrs)

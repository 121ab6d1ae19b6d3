-- The list tells of the descriptors so far.
use Rattle.std.proofs.Common.{◌≡◌, map}
use Rattle.std.specs.List.{range_with_len}
use Rattle.ds_image_parts.specs.Objects.{is_used}
use Rattle.ds_image_parts.specs.Parts.{part_at}
use Rattle.ds_check.proofs.marking.descriptors_in_use.Given as goal

abbrev pub invariant-loop-object : goal.invariant-loop-object
invariant-loop-object l = l.used.items ≡ map (λ n. is_used (part_at l.parts.bodies n)) (range_with_len 0 l.object)

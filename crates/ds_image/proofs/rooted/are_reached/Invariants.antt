-- The used descriptors so far are reached.
use Rattle.std.proofs.Common.{◌≡◌, ℕ, ◌<◌, true, false, slice_index_or}
use Rattle.ds_image_parts.specs.Objects.{is_used}
use Rattle.ds_image_parts.specs.Parts.{part_at}
use Rattle.ds_image.proofs.rooted.are_reached.Given as goal

abbrev pub invariant-loop-object : goal.invariant-loop-object
invariant-loop-object l = (o : ℕ) → o < l.object → is_used (part_at l.bodies o) ≡ true → slice_index_or l.reached o false ≡ true

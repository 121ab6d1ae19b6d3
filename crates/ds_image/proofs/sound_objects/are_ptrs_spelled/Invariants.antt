-- All so far are.
use Rattle.std.proofs.Common.{take}
use Rattle.std.specs.Prelude.{All}
use Rattle.std.specs.Prelude.{IsSome}
use Rattle.ds_image_parts.specs.Parts.{part_at}
use Rattle.ds_image.proofs.sound_objects.are_ptrs_spelled.Given as goal

abbrev pub invariant-loop-number : goal.invariant-loop-number
invariant-loop-number g l = All (λ n. IsSome (part_at l.parts.ptrs n)) (take l.number-index l.ptrs)

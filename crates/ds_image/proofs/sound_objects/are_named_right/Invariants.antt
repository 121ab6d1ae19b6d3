-- All so far are.
use Rattle.std.proofs.Common.{take}
use Rattle.std.specs.Prelude.{All}
use Rattle.ds_image.specs.Sound.{IsNamedRight}
use Rattle.ds_image.proofs.sound_objects.are_named_right.Given as goal

abbrev pub invariant-loop-entry : goal.invariant-loop-entry
invariant-loop-entry _ l = All (IsNamedRight l.parts) (take l.entry-index l.entries)

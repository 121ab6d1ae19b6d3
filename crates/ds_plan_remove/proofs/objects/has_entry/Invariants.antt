-- No room so far has an entry.
use Rattle.std.proofs.Common.{◌≡◌, drop}
use Rattle.ds_plan_remove.specs.Answers.{has_entry}
use Rattle.ds_plan_remove.proofs.objects.has_entry.Given as goal

abbrev pub invariant-loop-room : goal.invariant-loop-room
invariant-loop-room l = has_entry l.rooms ≡ has_entry (drop l.room-index l.rooms)

-- The findings of the objects so far are noted.
use Rattle.std.proofs.Common.{◌≡◌, ◌++◌}
use Rattle.ds_check.specs.Unreached.{unreached_at}
use Rattle.ds_check.specs.Rows.{row}
use Rattle.ds_check.proofs.unreached.note_unreached.Given as goal

abbrev pub invariant-loop-object : goal.invariant-loop-object
invariant-loop-object l = l.report ≡ l.initial.report ++ row l.object (unreached_at l.parts l.reached)

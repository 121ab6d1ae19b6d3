-- The findings of the objects so far are noted.
use Rattle.std.proofs.Common.{◌≡◌, ◌++◌}
use Rattle.ds_check.specs.Names.{misnamed_at}
use Rattle.ds_check.specs.Rows.{row}
use Rattle.ds_check.proofs.names.note_misnamed.Given as goal

abbrev pub invariant-loop-object : goal.invariant-loop-object
invariant-loop-object l = l.report ≡ l.initial.report ++ row l.object (misnamed_at l.geom l.parts)

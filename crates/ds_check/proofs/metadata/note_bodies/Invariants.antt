-- The findings of the numbers so far are noted.
use Rattle.std.proofs.Common.{◌≡◌, ◌++◌}
use Rattle.ds_check.specs.Metadata.{body_form}
use Rattle.ds_check.specs.Rows.{row}
use Rattle.ds_check.proofs.metadata.note_bodies.Given as goal

abbrev pub invariant-loop-object : goal.invariant-loop-object
invariant-loop-object l = l.report ≡ l.initial.report ++ row l.object (body_form l.geom l.parts)

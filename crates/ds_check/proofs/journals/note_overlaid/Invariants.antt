-- The findings of the numbers so far are noted.
use Rattle.std.proofs.Common.{◌≡◌, ◌++◌}
use Rattle.ds_check.specs.Journals.{shared_by}
use Rattle.ds_check.specs.Rows.{row}
use Rattle.ds_check.proofs.journals.note_overlaid.Given as goal

abbrev pub invariant-loop-first : goal.invariant-loop-first
invariant-loop-first l = l.report ≡ l.initial.report ++ row l.first (shared_by l.geom l.controls)

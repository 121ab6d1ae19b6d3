-- The findings of the numbers so far are noted.
use Rattle.std.proofs.Common.{◌≡◌, ◌++◌}
use Rattle.ds_check.specs.Journals.{shared_targets}
use Rattle.ds_check.specs.Rows.{row}
use Rattle.ds_check.proofs.journals.note_shared_by.Given as goal

abbrev pub invariant-loop-second : goal.invariant-loop-second
invariant-loop-second l = l.report ≡ l.initial.report ++ row l.second (shared_targets l.controls l.first)

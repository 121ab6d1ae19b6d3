-- The findings of the directories so far are noted.
use Rattle.std.proofs.Common.{◌≡◌, ◌++◌}
use Rattle.ds_check.specs.Entries.{repeated_in, rooms_at}
use Rattle.ds_check.specs.Rows.{row}
use Rattle.ds_check.proofs.entries.note_repeated.Given as goal

abbrev pub invariant-loop-object : goal.invariant-loop-object
invariant-loop-object l = l.report ≡ l.initial.report ++ row l.object (λ o. repeated_in o (rooms_at l.parts o))

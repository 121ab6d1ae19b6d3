-- The findings of the directories so far are noted.
use Rattle.std.proofs.Common.{◌≡◌, ◌++◌}
use Rattle.ds_check.specs.Entries.{dangling_in, rooms_at}
use Rattle.ds_check.specs.Rows.{row}
use Rattle.ds_check.proofs.entries.note_dangling.Given as goal

abbrev pub invariant-loop-object : goal.invariant-loop-object
invariant-loop-object l = l.report ≡ l.initial.report ++ row l.object (λ o. dangling_in l.parts o (rooms_at l.parts o))

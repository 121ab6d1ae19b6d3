-- The findings of the rooms so far are noted.
use Rattle.std.proofs.Common.{◌≡◌, ◌++◌}
use Rattle.ds_check.specs.Entries.{dangling_room}
use Rattle.ds_check.specs.Rows.{row}
use Rattle.ds_check.proofs.entries.note_dangling_in.Given as goal

abbrev pub invariant-loop-room : goal.invariant-loop-room
invariant-loop-room l = l.report ≡ l.initial.report ++ row l.room (dangling_room l.parts l.object l.rooms)

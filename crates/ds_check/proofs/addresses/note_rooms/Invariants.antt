-- The findings of the sub-blocks so far are noted.
use Rattle.std.proofs.Common.{◌≡◌, ◌++◌}
use Rattle.ds_check.specs.Addresses.{room_at}
use Rattle.ds_check.specs.Rows.{row}
use Rattle.ds_check.proofs.addresses.note_rooms.Given as goal

abbrev pub invariant-loop-i : goal.invariant-loop-i
invariant-loop-i l = l.report ≡ l.initial.report ++ row l.i (room_at l.geom l.parts l.object l.subs)

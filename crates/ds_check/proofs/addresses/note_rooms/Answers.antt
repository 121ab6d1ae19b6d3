-- Those of one more sub-block are noted.
use Rattle.ds_check.specs.Addresses.{room_at}
use Rattle.ds_check.proofs.Rows.{row_step}
use Rattle.ds_check.proofs.addresses.note_rooms.Goals as goal

pub loop-i-preserved : goal.loop-i-preserved
loop-i-preserved c =
    row_step c.args.report.now c.loop-i.report c.note_room.new.report (room_at c.args.geom.now c.args.parts.now c.args.object c.args.subs.now) c.loop-i.i c.loop-i.invariant c.in_ok-note_room.ensures

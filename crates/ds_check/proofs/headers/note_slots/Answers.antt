-- Those of one more number are noted.
use Rattle.ds_check.specs.Headers.{slot_form}
use Rattle.ds_check.proofs.Rows.{row_step}
use Rattle.ds_check.proofs.headers.note_slots.Goals as goal

pub loop-number-preserved : goal.loop-number-preserved
loop-number-preserved c =
    row_step c.args.report.now c.loop-number.report c.note_slot.new.report (slot_form c.args.geom.now c.args.controls.now) c.loop-number.number c.loop-number.invariant c.in_ok-note_slot.ensures

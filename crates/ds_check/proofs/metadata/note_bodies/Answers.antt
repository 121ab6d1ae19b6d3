-- Those of one more number are noted.
use Rattle.ds_check.specs.Metadata.{body_form}
use Rattle.ds_check.proofs.Rows.{row_step}
use Rattle.ds_check.proofs.metadata.note_bodies.Goals as goal

pub loop-object-preserved : goal.loop-object-preserved
loop-object-preserved c =
    row_step c.args.report.now c.loop-object.report c.note_body.new.report (body_form c.args.geom.now c.args.parts.now) c.loop-object.object c.loop-object.invariant c.in_ok-note_body.ensures

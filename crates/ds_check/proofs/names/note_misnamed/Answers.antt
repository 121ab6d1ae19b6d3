-- Those of one more object are noted.
use Rattle.ds_check.specs.Names.{misnamed_at}
use Rattle.ds_check.proofs.Rows.{row_step}
use Rattle.ds_check.proofs.names.note_misnamed.Goals as goal

pub loop-object-preserved : goal.loop-object-preserved
loop-object-preserved c =
    row_step c.args.report.now c.loop-object.report c.note_names.new.report (misnamed_at c.args.geom.now c.args.parts.now)
    c.loop-object.object c.loop-object.invariant c.in_ok-note_names.ensures

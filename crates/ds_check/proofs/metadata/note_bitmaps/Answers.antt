-- Those of one more number are noted.
use Rattle.ds_check.specs.Metadata.{bitmap_form}
use Rattle.ds_check.proofs.Rows.{row_step}
use Rattle.ds_check.proofs.metadata.note_bitmaps.Goals as goal

pub loop-cluster-preserved : goal.loop-cluster-preserved
loop-cluster-preserved c =
    row_step c.args.report.now c.loop-cluster.report c.note_bitmap.new.report (bitmap_form c.args.geom.now c.args.parts.now c.args.kind) c.loop-cluster.cluster c.loop-cluster.invariant c.in_ok-note_bitmap.ensures

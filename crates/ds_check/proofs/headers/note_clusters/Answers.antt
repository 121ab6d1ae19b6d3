-- Those of one more number are noted.
use Rattle.ds_layout.specs.Places.{cluster_lock}
use Rattle.ds_image_parts.specs.Parts.{part_at}
use Rattle.ds_check.specs.Controls.{owners_of}
use Rattle.ds_check.specs.Headers.{cluster_form, header_form}
use Rattle.ds_check.proofs.Rows.{row_step, same_finds}
use Rattle.ds_check.proofs.headers.note_clusters.Goals as goal

pub loop-number-preserved : goal.loop-number-preserved
loop-number-preserved c =
    row_step c.args.report.now c.loop-number.report c.note_header.new.report (cluster_form c.args.geom.now c.args.controls.now c.args.kind) c.loop-number.number c.loop-number.invariant
    (same_finds (header_form c.args.geom.now) c.cluster_lock.result (cluster_lock c.args.kind c.loop-number.number) c.cluster.result
    (part_at (owners_of c.args.controls.now c.args.kind) c.loop-number.number) c.loop-number.report c.note_header.new.report c.cluster_lock.ensures c.cluster.ensures c.in_ok-note_header.ensures)

-- Those of one more number are noted.
use Rattle.ds_check.specs.Journals.{shared_by}
use Rattle.ds_check.proofs.Rows.{row_step}
use Rattle.ds_check.proofs.journals.note_overlaid.Goals as goal

pub loop-first-preserved : goal.loop-first-preserved
loop-first-preserved c =
    row_step c.args.report.now c.loop-first.report c.note_shared_by.new.report (shared_by c.args.geom.now c.args.controls.now) c.loop-first.first c.loop-first.invariant c.in_ok-note_shared_by.ensures

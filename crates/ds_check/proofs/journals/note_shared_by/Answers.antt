-- Those of one more number are noted.
use Rattle.ds_check.specs.Journals.{shared_targets}
use Rattle.ds_check.proofs.Rows.{row_step}
use Rattle.ds_check.proofs.journals.note_shared_by.Goals as goal

pub loop-second-preserved : goal.loop-second-preserved
loop-second-preserved c =
    row_step c.args.report.now c.loop-second.report c.note_shared.new.report (shared_targets c.args.controls.now c.args.first) c.loop-second.second c.loop-second.invariant c.in_ok-note_shared.ensures

-- Those of one more directory are noted.
use Rattle.ds_check.specs.Entries.{repeated_in, rooms_at}
use Rattle.ds_check.proofs.Rows.{row_step}
use Rattle.ds_check.proofs.entries.note_repeated.Goals as goal

pub loop-object-preserved : goal.loop-object-preserved
loop-object-preserved c =
    row_step c.args.report.now c.loop-object.report c.note_repeated_at.new.report (λ o. repeated_in o (rooms_at c.args.parts.now o))
    c.loop-object.object c.loop-object.invariant c.in_ok-note_repeated_at.ensures

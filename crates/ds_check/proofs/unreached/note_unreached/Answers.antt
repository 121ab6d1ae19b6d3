-- What is found of one more object is noted.
use Rattle.std.proofs.Common.{◌++◌, ap, ◌∙◌}
use Rattle.ds_check.specs.declared.findings.Find.TheVariants.{Lost}
use Rattle.ds_check.specs.Unreached.{unreached_at}
use Rattle.ds_check.specs.Rows.{find_if}
use Rattle.ds_check.proofs.Rows.{row_step}
use Rattle.ds_check.proofs.unreached.note_unreached.Goals as goal

pub loop-object-preserved : goal.loop-object-preserved
loop-object-preserved c =
    row_step c.args.report.now c.loop-object.report c.note_if.new.self (unreached_at c.args.parts.now c.args.reached.now)
    c.loop-object.object c.loop-object.invariant
    (c.in_ok-note_if.ensures ∙ ap (λ b. c.loop-object.report ++ find_if b (Lost c.loop-object.object)) c.is_unreached.ensures)

-- One more item is noted where its bit is set in the one list alone.
use Rattle.std.proofs.Common.{ℕ, ◌++◌, ap, ◌∙◌}
use Rattle.std.specs.Prelude.{◌&&◌, not}
use Rattle.ds_image_tables.specs.Owns.{bit}
use Rattle.ds_check.specs.declared.findings.Find.TheVariants as finds
use Rattle.ds_check.specs.Rows.{find_if}
use Rattle.ds_check.proofs.Rows.{row_step}
use Rattle.ds_check.proofs.marking.note_marked.Goals as goal

pub loop-item-preserved : goal.loop-item-preserved
loop-item-preserved c =
    let each = λ (n : ℕ). find_if (bit c.args.marked.now n && not (bit c.args.used.now n)) (finds.Marked c.args.kind n) in
    row_step c.args.report.now c.loop-item.report c.note_if.new.self each c.loop-item.item c.loop-item.invariant
    (c.in_ok-note_if.ensures
    ∙ ap (λ found. c.loop-item.report ++ find_if found (finds.Marked c.args.kind c.loop-item.item)) c.is_only_in.ensures)

-- The findings of the items so far are noted.
use Rattle.std.proofs.Common.{◌≡◌, ◌++◌}
use Rattle.std.specs.Prelude.{◌&&◌, not}
use Rattle.ds_image_tables.specs.Owns.{bit}
use Rattle.ds_check.specs.declared.findings.Find.TheVariants as finds
use Rattle.ds_check.specs.Rows.{find_if, row}
use Rattle.ds_check.proofs.marking.note_marked.Given as goal

abbrev pub invariant-loop-item : goal.invariant-loop-item
invariant-loop-item l =
    l.report ≡ l.initial.report ++ row l.item (λ n. find_if (bit l.marked n && not (bit l.used n)) (finds.Marked l.kind n))

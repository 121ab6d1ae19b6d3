use Rattle.ds_image_tables.proofs.Ownership.MarkedLists.{MarkedFront}
use Rattle.ds_image_tables.proofs.marks.Marks.mark_list.Given as goal

-- the items so far are marked
abbrev pub invariant-loop-item : goal.invariant-loop-item
invariant-loop-item l = MarkedFront l.fn.self l.items l.item-index l.self

-- The items so far are marked, and the others can be.
use Rattle.std.proofs.Common.{◌≡◌, true, drop}
use Rattle.ds_image_tables.specs.Owned.{CanMark, with_marks}
use Rattle.ds_plan_resize.proofs.taking.marked.Given as goal

abbrev pub invariant-loop-item : goal.invariant-loop-item
invariant-loop-item l = record {
  used : with_marks l.marked.used (drop l.item-index l.items) true ≡ with_marks l.fn.map.used l.items true;
  can : CanMark l.marked.used (drop l.item-index l.items);
  same_kind : l.marked.kind ≡ l.fn.map.kind;
  same_cluster : l.marked.cluster ≡ l.fn.map.cluster;
}

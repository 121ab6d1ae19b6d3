-- The pairs so far are put in.
use Rattle.std.proofs.Common.{◌≡◌, ◌+◌, ◌≤◌, length, drop}
use Rattle.ds_plan_resize.specs.Ordered.{put_all_in}
use Rattle.ds_plan_resize.proofs.pages.put_all.Given as goal

abbrev pub invariant-loop-pair : goal.invariant-loop-pair
invariant-loop-pair l = record {
  put : put_all_in l.pairs.items (drop l.pair-index l.more) ≡ put_all_in l.fn.pairs.items l.more;
  few : length l.pairs.items ≤ length l.fn.pairs.items + l.pair-index;
}

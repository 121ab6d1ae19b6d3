-- The pages so far are put in.
use Rattle.std.proofs.Common.{◌≡◌, ◌+◌, ◌≤◌, length, map, drop}
use Rattle.ds_plan_resize.specs.Ordered.{put_all_in}
use Rattle.ds_plan_resize.specs.Redos.{pages_of, ptr_pair}
use Rattle.ds_plan_resize.proofs.pages.put_pages.Given as goal

abbrev pub invariant-loop-n : goal.invariant-loop-n
invariant-loop-n l = record {
  put : put_all_in l.pairs.items (map (ptr_pair l.geom) (pages_of l.rest (drop l.n-index l.pointers)))
      ≡ put_all_in l.fn.pairs.items (map (ptr_pair l.geom) (pages_of l.blocks l.pointers));
  few : length l.pairs.items ≤ length l.fn.pairs.items + l.n-index;
}

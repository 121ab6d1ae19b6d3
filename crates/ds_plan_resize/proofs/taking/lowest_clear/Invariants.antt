-- The clear items so far are listed, which are not yet enough.
use Rattle.std.proofs.Common.{◌≡◌, ◌++◌, ◌≤◌, length, take, drop}
use Rattle.ds_plan_resize.specs.Taking.{clear_from, lowest_clear}
use Rattle.ds_plan_resize.proofs.taking.lowest_clear.Given as goal

abbrev pub invariant-loop-item : goal.invariant-loop-item
invariant-loop-item l = record {
  known : lowest_clear l.most l.map.used ≡ take l.most (l.items.items ++ clear_from l.item (drop l.item l.map.used));
  few : length l.items.items ≤ l.most;
}

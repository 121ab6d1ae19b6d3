use Rattle.std.proofs.Common.{◌≡◌, ◌≤◌, not, take, count_by}
use Rattle.ds_bitmap.proofs.searching.count_free.Given as goal

abbrev pub invariant-loop-item : goal.invariant-loop-item
invariant-loop-item l =
    record {
      counted : l.count ≡ count_by not (take l.item l.used);
      most : l.count ≤ l.item;
    }

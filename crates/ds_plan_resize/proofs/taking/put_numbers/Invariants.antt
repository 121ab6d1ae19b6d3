-- The numbers so far are put behind the others.
use Rattle.std.proofs.Common.{◌≡◌, ◌+◌, ◌++◌, map, take}
use Rattle.ds_plan_resize.proofs.taking.put_numbers.Given as goal

abbrev pub invariant-loop-item : goal.invariant-loop-item
invariant-loop-item l = l.numbers.items ≡ l.fn.numbers.items ++ map (λ item. l.first + item) (take l.item-index l.items)

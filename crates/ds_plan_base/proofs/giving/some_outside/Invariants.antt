-- No item so far is none of the volume.
use Rattle.std.proofs.Common.{◌≡◌, drop}
use Rattle.ds_plan_base.specs.Giving.{some_outside}
use Rattle.ds_plan_base.proofs.giving.some_outside.Given as goal

abbrev pub invariant-loop-number : goal.invariant-loop-number
invariant-loop-number l = some_outside l.fn.geom l.fn.kind l.fn.items ≡ some_outside l.fn.geom l.fn.kind (drop l.number-index l.fn.items)

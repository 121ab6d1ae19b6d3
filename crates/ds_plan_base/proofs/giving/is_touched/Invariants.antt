-- No item so far is in the cluster.
use Rattle.std.proofs.Common.{◌≡◌, drop}
use Rattle.ds_plan_base.specs.Giving.{is_touched}
use Rattle.ds_plan_base.proofs.giving.is_touched.Given as goal

abbrev pub invariant-loop-number : goal.invariant-loop-number
invariant-loop-number l = is_touched l.fn.geom l.fn.kind l.fn.cluster l.fn.items ≡ is_touched l.fn.geom l.fn.kind l.fn.cluster (drop l.number-index l.fn.items)

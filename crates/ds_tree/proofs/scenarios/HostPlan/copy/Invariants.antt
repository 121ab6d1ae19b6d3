use Rattle.std.proofs.Common.{◌≡◌, take}
use Rattle.ds_tree.proofs.scenarios.HostPlan.copy.Given as goal

abbrev pub invariant-loop-directive : goal.invariant-loop-directive
invariant-loop-directive l = l.list ≡ take l.directive-index l.directive-items

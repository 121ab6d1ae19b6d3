use Rattle.std.proofs.Common.{◌≡◌, take}
use Rattle.ds_tree.proofs.scenarios.Scenario.copy.Given as goal

abbrev pub invariant-loop-plan : goal.invariant-loop-plan
invariant-loop-plan l = l.hosts ≡ take l.plan-index l.plan-items

abbrev pub invariant-loop-step : goal.invariant-loop-step
invariant-loop-step l = l.steps ≡ take l.step-index l.step-items

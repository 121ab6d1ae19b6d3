use Rattle.std.proofs.Common.{◌-◌, length}
use Rattle.std.specs.Prelude.{sum}
use Rattle.std.specs.List.{sum_by}
use Rattle.ds_script.specs.Passing.{HasPassed}
use Rattle.ds_script.proofs.passing.pass_all.Given as goal

abbrev pub invariant-loop : goal.invariant-loop
invariant-loop l = HasPassed l.plans l.passed

abbrev pub decreases-loop : goal.decreases-loop
decreases-loop l = sum_by (λ plan. length plan.list) l.plans - sum l.passed

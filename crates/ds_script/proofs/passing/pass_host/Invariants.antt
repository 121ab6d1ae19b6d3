use Rattle.std.proofs.Common.{◌≡◌, ◌-◌, ◌<◌, length, true, false}
use Rattle.std.specs.Prelude.{slice_index, sum}
use Rattle.ds_tree.specs.PlainPass.{list_at}
use Rattle.ds_script.specs.Passing.{HasPassed}
use Rattle.ds_script.proofs.passing.pass_host.Given as goal

abbrev pub invariant-loop-any : goal.invariant-loop-any
invariant-loop-any l = record {
  keeps : HasPassed l.plans l.passed;
  none : l.any ≡ false → l.passed ≡ l.initial.passed;
  some : l.any ≡ true → sum l.initial.passed < sum l.passed;
}

abbrev pub decreases-loop-any : goal.decreases-loop-any
decreases-loop-any l = length (list_at l.plans l.host) - slice_index l.passed l.host

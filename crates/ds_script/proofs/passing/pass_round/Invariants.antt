use Rattle.std.proofs.Common.{◌≡◌, ℕ, ◌<◌, true, false}
use Rattle.std.specs.Prelude.{sum}
use Rattle.ds_script.specs.Passing.{HasPassed, Rests}
use Rattle.ds_script.proofs.passing.pass_round.Given as goal

abbrev pub invariant-loop-host : goal.invariant-loop-host
invariant-loop-host l = record {
  keeps : HasPassed l.plans l.passed;
  none : l.any ≡ false → l.passed ≡ l.initial.passed;
  rest : l.any ≡ false → (h : ℕ) → h < l.host → Rests l.plans l.passed h;
  some : l.any ≡ true → sum l.initial.passed < sum l.passed;
}

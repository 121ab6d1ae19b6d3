use Rattle.std.proofs.Common.{ℕ, ◌<◌, ◌≤◌, length}
use Rattle.ds_tree.specs.PlainPass.{list_at}
use Rattle.ds_tests_texts.proofs.passing_tests.is_numbered.Given as goal

abbrev pub invariant-loop-plan : goal.invariant-loop-plan
invariant-loop-plan l = (h : ℕ) → h < l.plan-index → length (list_at l.plans h) ≤ 4096

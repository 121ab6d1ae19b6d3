-- What a plain pass tells is the one answer that is so.
use Rattle.std.proofs.Common.{◌≡◌, ℕ, List, refl, ap, ◌∙◌, subst, arith}
use Rattle.std.specs.Prelude.{slice_index, ◌↔◌}
use Rattle.ds_tree.specs.declared.scenarios.HostPlan.{HostPlan}
use Rattle.ds_tree.specs.PlainPass.{PassesAll, IsStuck}
use Rattle.ds_tree.proofs.PlainPasses.{one_answer, same_stuck}
use Rattle.ds_script.specs.declared.passing.Pass.{Pass}
use Rattle.ds_script.specs.declared.passing.Pass.TheVariants.{Passed, Stuck}
use Rattle.ds_script.specs.Passing.{HasPassed, Rests, TellsLeft, IsSo}

module _ (plans : List HostPlan) where
  -- where the hosts rest, the first that isn't at its end is told, or that there is none
  pub rest_tells : (passed : List ℕ) → HasPassed plans passed → ((host : ℕ) → Rests plans passed host)
      → (pass : Pass) → TellsLeft plans passed pass → IsSo plans pass
  rest_tells passed has rests Passed ends = record {
    rank = has.passes.rank;
    within = λ h. omega arith;
    rises = λ h n less. has.passes.rises h n (omega (arith, less, ends h));
    behind = λ h n other i less needs.
        let was = has.passes.behind h n other i (omega (arith, less, ends h)) needs in
        (needs.listed, was.1);
  }
  rest_tells passed has rests (Stuck host directive) told = record {
    passed = slice_index passed;
    passes = has.passes;
    stops = rests;
    left = told.left;
    next = told.next;
    first = told.first;
  }

  only_passed : (pass : Pass) → IsSo plans pass → PassesAll plans → pass ≡ Passed
  only_passed Passed so all = refl
  only_passed (Stuck host directive) so all = absurd (one_answer plans host directive all so)

  only_stuck : (pass : Pass) → IsSo plans pass → (host directive : ℕ) → IsStuck plans host directive → pass ≡ Stuck host directive
  only_stuck Passed so host directive stuck = absurd (one_answer plans host directive so stuck)
  only_stuck (Stuck h d) so host directive stuck =
      let same = same_stuck plans h d host directive so stuck in
      ap (λ x. Stuck x d) same.0 ∙ ap (λ y. Stuck host y) same.1

  pub exactly_passed : (pass : Pass) → IsSo plans pass → (pass ≡ Passed) ↔ PassesAll plans
  exactly_passed pass so = (λ e. let P : Pass → Type 0 = λ p. IsSo plans p in subst P e so, only_passed pass so)

  pub exactly_stuck : (pass : Pass) → IsSo plans pass → (host directive : ℕ) → (pass ≡ Stuck host directive) ↔ IsStuck plans host directive
  exactly_stuck pass so host directive =
      (λ e. let P : Pass → Type 0 = λ p. IsSo plans p in subst P e so, only_stuck pass so host directive)

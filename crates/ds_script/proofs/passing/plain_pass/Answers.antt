use Rattle.std.proofs.Common.{◌≡◌, ℕ, List, sym, ◌∙◌, subst}
use Rattle.ds_tree.specs.declared.scenarios.HostPlan.{HostPlan}
use Rattle.ds_script.specs.declared.passing.Pass.{Pass}
use Rattle.ds_script.specs.Passing.{HasPassed, IsSo}
use Rattle.ds_script.proofs.Advances.{HasPassed-none}
use Rattle.ds_script.proofs.Answering.{exactly_passed, exactly_stuck}
use Rattle.ds_script.proofs.passing.plain_pass.Goals as goal

pub pass_all-requires-clause-passed : goal.pass_all-requires-clause-passed
pass_all-requires-clause-passed c =
    let plans = c.as_slice-plans.result.now in
    let P : List ℕ → Type 0 = λ passed. HasPassed plans passed in
    subst P (sym (c.as_mut_slice.ensures.value ∙ c.in_ok-passed.ensures)) (HasPassed-none plans)

-- the hosts that were gone through are the scenario's
so : (plans hosts : List HostPlan) → plans ≡ hosts → (pass : Pass) → IsSo plans pass → IsSo hosts pass
so plans hosts same pass is = let P : List HostPlan → Type 0 = λ list. IsSo list pass in subst P same is

pub returns-clause-passed : goal.returns-clause-passed
returns-clause-passed c =
    exactly_passed c.args.scenario.now.hosts c.pass_all.result
    (so c.as_slice-plans.result.now c.args.scenario.now.hosts c.as_slice-plans.ensures c.pass_all.result c.pass_all.ensures)

pub returns-clause-stuck : goal.returns-clause-stuck
returns-clause-stuck c =
    exactly_stuck c.args.scenario.now.hosts c.pass_all.result
    (so c.as_slice-plans.result.now c.args.scenario.now.hosts c.as_slice-plans.ensures c.pass_all.result c.pass_all.ensures)

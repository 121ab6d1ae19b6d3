-- The lists of the hosts: one directive more, and how long they are.
use Rattle.std.proofs.Common.{◌≡◌, ℕ, zero, suc, ◌≤◌, ◌<◌, List, [], ◌∷◌, ◌++◌, length, get_or, ap, arith}
use Rattle.std.specs.Prelude.{slice_set, sum_by}
use Rattle.ds_tree.specs.declared.scenarios.Directive.{Directive}
use Rattle.ds_tree.specs.declared.scenarios.HostPlan.{HostPlan}
use Rattle.std.proofs.lemmas.List.Sums.{sum_by-cons}
use Rattle.ds_tree.specs.PlainPass.{list_at}
use Rattle.ds_script.specs.Passing.{AreNumbered}
use Rattle.ds_script.specs.Reading.{with_directive}

abbrev pub with_one_more : HostPlan → Directive → HostPlan
with_one_more plan d = record plan { list = plan.list ++ d ∷ [] }

pub with_directive_set : (plans : List HostPlan) (host : ℕ) (d : Directive) (plan : HostPlan) → host < length plans
    → plan ≡ get_or plans host plan → slice_set plans host (with_one_more plan d) ≡ with_directive plans host d
with_directive_set [] host d plan within e = absurd (omega (arith, within))
with_directive_set (p ∷ plans) zero d plan within e = ap (λ q. with_one_more q d ∷ plans) e
with_directive_set (p ∷ plans) (suc host) d plan within e = ap (λ ps. p ∷ ps) (with_directive_set plans host d plan (omega (arith, within)) e)

abbrev sum_of_lists : List HostPlan → ℕ
sum_of_lists plans = sum_by (λ (plan : HostPlan). length plan.list) plans

-- a host has no more directives than all hosts
list_within : (plans : List HostPlan) (host : ℕ) → length (list_at plans host) ≤ sum_of_lists plans
list_within [] zero = omega arith
list_within [] (suc host) = omega arith
list_within (plan ∷ plans) zero = omega (arith, sum_by-cons (λ (p : HostPlan). length p.list) plan plans)
list_within (plan ∷ plans) (suc host) =
    omega (arith, list_within plans host, sum_by-cons (λ (p : HostPlan). length p.list) plan plans)

-- hosts and directives within the limits can be numbered
pub numbered_within : (plans : List HostPlan) → length plans ≤ 16 → sum_of_lists plans ≤ 4096 → AreNumbered plans
numbered_within plans hosts all = record {
  hosts = omega (arith, hosts);
  directives = λ h. omega (arith, all, list_within plans h);
}

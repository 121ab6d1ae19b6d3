use Rattle.std.proofs.Common.{◌≡◌, ℕ, List, [], length, refl, ap, sym, subst, ◌∙◌, arith}
use Rattle.std.specs.Prelude.{slice_get}
use Rattle.std.specs.List.{AllByRecursion, sum_by}
use Rattle.ds_base.specs.Geometry.{IsGeom}
use Rattle.ds_tree.specs.declared.scenarios.HostPlan.{HostPlan}
use Rattle.ds_tree.specs.declared.scenarios.Scenario.{Scenario}
use Rattle.ds_tree.specs.Grammar.{HasFourKinds, IsPlan, IsStep, IsScenario, names_of}
use Rattle.ds_world.proofs.first_form_tests.without_hosts.Goals as goal

-- a scenario of a geometry, without hosts
hostless : (s : Scenario) → HasFourKinds s.geom → IsGeom s.geom → s.hosts ≡ [] → s.steps ≡ [] → IsScenario s
hostless s four geometry none steps = record {
  four = four;
  geometry = geometry;
  plans = subst (AllByRecursion (IsPlan (length s.hosts))) (sym none) tt;
  apart = λ i j name first second. absurd (cc (sym (ap (λ (hosts : List HostPlan). slice_get (names_of hosts) i) none) ∙ first));
  steps = subst (AllByRecursion (IsStep (length s.hosts))) (sym steps) tt;
  few_hosts = omega (arith, ap (λ (hosts : List HostPlan). length hosts) none);
  few_directives = omega (arith, ap (sum_by (λ (plan : HostPlan). length plan.list)) none);
  few_steps = omega (arith, ap (sum_by (λ (step : ℕ × ℕ). step.1)) steps);
}

pub not_built-requires : goal.not_built-requires
not_built-requires g c = let is = c.is_geom.ensures in hostless _ (record { clusters = refl; items = refl }) (is cc) c.new.ensures c.new-2.ensures

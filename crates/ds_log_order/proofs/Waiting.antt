-- Where every host rests or has ended, all have ended: of the hosts that rest, the one whose directive has the lowest rank waits
-- for a host whose directive has a lower one.
use Rattle.std.proofs.Common.{
  ◌≡◌,
  ℕ,
  zero,
  suc,
  ◌<◌,
  ◌≤◌,
  inl,
  inr,
  Bool,
  true,
  false,
  List,
  length,
  refl,
  ap,
  sym,
  subst,
  arith,
  Option,
  Some,
  None,
}
use Rattle.std.proofs.lemmas.Bool.{cases_lt}
use Rattle.std.proofs.lemmas.Option.{slice_get_past, slice_get_within}
use Rattle.std.specs.Prelude.{slice_get, if◌then◌else◌, ◌&&◌}
use Rattle.ds_tree.specs.PlainPass.{Needs, PassesAll, directives_of, list_at, one_before, wait_of}
use Rattle.ds_tree.specs.declared.scenarios.Directive.{Directive}
use Rattle.ds_tree.specs.declared.scenarios.Directive.TheVariants as directives
use Rattle.ds_tree.specs.declared.scenarios.HostPlan.{HostPlan}
use Rattle.ds_tree.specs.declared.scenarios.Point.{Point}
use Rattle.ds_log_order.specs.HostFacts.{HostFacts, mark_of}
use Rattle.ds_log_order.specs.LogProgress.{progress, progresses}
use Rattle.ds_log_order.specs.Progress.{advance, arm_after, called, died, gone_on}
use Rattle.ds_log_order.specs.Told.{Told}
use Rattle.ds_log_order.specs.Waiting.{HasEnded, IsResting, IsStill, waits}
use Rattle.ds_log_order.specs.declared.progress.Arm.{Arm}
use Rattle.ds_log_order.specs.declared.progress.Arm.TheVariants as arms
use Rattle.ds_log_order.specs.declared.progress.Mark.{Mark}
use Rattle.ds_log_order.specs.declared.progress.Progress.{Progress}
use Rattle.ds_log_order.proofs.Advancing.{progress-keeps}

-- what is set was set by the directive before
abbrev pub ArmStands : Option Directive → Arm → Type 0
ArmStands before (arms.Hold point host number) = before ≡ Some (directives.Hold point host number)
ArmStands before (arms.Bitten host number) = (point : Point) × (before ≡ Some (directives.Hold point host number))
ArmStands before _ = Unit {0}

abbrev Stands : List Directive → Progress → Type 0
Stands list p = ArmStands (one_before list p.finished) p.arm

arm_after-stands : (before : Option Directive) (arm : Arm) (hit done : Bool) → ArmStands before arm
    → ArmStands before (arm_after arm hit done)
arm_after-stands before (arms.Hold point host number) hit done h =
    elim (hit && done) as (λ (b : Bool). ArmStands before (if b then arms.Bitten host number else arms.Hold point host number))
    [ true ↦ (point, h) | false ↦ h ]
arm_after-stands before (arms.Fail point landed) hit done h =
    elim hit as (λ (b : Bool). ArmStands before (if b then arms.Nothing else arms.Fail point landed)) [ true ↦ tt | false ↦ tt ]
arm_after-stands before (arms.Bitten host number) hit done h = h
arm_after-stands before (arms.Crash point) hit done h = tt
arm_after-stands before arms.Nothing hit done h = tt

call-stands : (list : List Directive) (p : Progress) (mark : Mark) (dies ends : Bool) → Stands list p
    → Stands list (if dies then died list p else (if ends then gone_on p arms.Nothing p.alive else called p mark))
call-stands list p mark true ends stands = tt
call-stands list p mark false true stands = tt
call-stands list p mark false false stands = arm_after-stands (one_before list p.finished) p.arm mark.hit mark.done stands

advance-stands : (list : List Directive) (d : Option Directive) (p : Progress) (mark : Mark) → slice_get list p.finished ≡ d
    → Stands list p → Stands list (advance list d p mark)
advance-stands list None p mark e stands = stands
advance-stands list (Some (directives.Call call bind)) p mark e stands = call-stands list p mark mark.dies mark.ends stands
advance-stands list (Some (directives.Hold point host number)) p mark e stands = e
advance-stands list (Some _) p mark e stands = tt

-- where a host waits, its directive does
waits-stand : (before d : Option Directive) (arm : Arm) (other number : ℕ) → ArmStands before arm → waits d arm ≡ Some (other, number)
    → wait_of before d ≡ Some (other, number)
waits-stand before (Some (directives.Wait host n)) arm other number stands e = e
waits-stand before (Some (directives.Call call bind)) (arms.Bitten host n) other number stands e =
    subst (λ (b : Option Directive). wait_of b (Some (directives.Call call bind)) ≡ Some (other, number)) (sym stands.1) e
waits-stand before _ _ other number stands e = absurd cc

-- only a host with a directive left waits
waits-some : (d : Option Directive) (arm : Arm) (other number : ℕ) → waits d arm ≡ Some (other, number) → (x : Directive) × (d ≡ Some x)
waits-some None arm other number e = absurd cc
waits-some (Some x) arm other number e = (x, refl)

-- a host that isn't there has no directives
pub length-past : (plans : List HostPlan) (host : ℕ) → length plans ≤ host → length (list_at plans host) ≡ 0
length-past plans host past = ap (λ (o : Option HostPlan). length (directives_of o)) (slice_get_past plans host past)

module _ (facts : HostFacts) (plans : List HostPlan) where
  pub progress-stands : (host : ℕ) (log : List Told)
      → ArmStands (one_before (list_at plans host) (progress facts plans host log).finished) (progress facts plans host log).arm
  progress-stands host log = progress-keeps facts plans host (Stands (list_at plans host)) tt
      (λ past p t h. advance-stands (list_at plans host) (slice_get (list_at plans host) p.finished) p (mark_of facts past p t) refl h) log

  -- a host that rests needs a directive that isn't finished: the next one of the other
  pub rests-needs : (host : ℕ) (log : List Told) (rest : IsResting plans (progresses facts plans log) host)
      → Needs plans host (progress facts plans host log).finished rest.other (progress facts plans rest.other log).finished
  rests-needs host log rest = record {
    number = rest.number;
    waits = waits-stand _ _ _ rest.other rest.number (progress-stands host log) rest.for_it;
    counted = omega (arith, rest.ahead);
    listed = omega (arith, rest.ahead);
  }

  module _ (passes : PassesAll plans) (log : List Told)
      (still : (host : ℕ) → host < length plans → IsStill plans (progresses facts plans log) host) where
    pub still_all : (host : ℕ) → IsStill plans (progresses facts plans log) host
    still_all host = elim (cases_lt host (length plans)) [
      | inl there ↦ still host there
      | inr past ↦ inl (omega (arith, length-past plans host past))
    ]

    none_rests : (r host : ℕ) → passes.rank host (progress facts plans host log).finished < r
        → IsResting plans (progresses facts plans log) host → ⊥
    none_rests zero host low rest = omega arith
    none_rests (suc r) host low rest =
        let needs = rests-needs host log rest in
        let some = waits-some _ _ _ _ rest.for_it in
        let within : (progress facts plans host log).finished < length (list_at plans host) = slice_get_within _ _ some.0 some.1 in
        let lower = passes.behind host (progress facts plans host log).finished rest.other
        (progress facts plans rest.other log).finished within needs in
        elim (still_all rest.other) [
          | inl ended ↦ omega (arith, rest.ahead, ended)
          | inr rests ↦ none_rests r rest.other (omega (arith, lower.1)) rests
        ]

    -- so all have ended
    pub all_ended : (host : ℕ) → HasEnded plans (progresses facts plans log) host
    all_ended host = elim (still_all host) [
      | inl ended ↦ ended
      | inr rests ↦ absurd (none_rests (suc (passes.rank host (progress facts plans host log).finished)) host (omega arith) rests)
    ]

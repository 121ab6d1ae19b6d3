-- Each event leaves fewer turns.
use Rattle.std.proofs.Common.{
  ◌≡◌,
  ℕ,
  zero,
  suc,
  ◌<◌,
  ◌≤◌,
  ◌⊎◌,
  inl,
  inr,
  Bool,
  true,
  false,
  List,
  [],
  ◌∷◌,
  ◌++◌,
  length,
  refl,
  ap,
  sym,
  subst,
  arith,
  Option,
  Some,
}
use Rattle.std.proofs.lemmas.Bool.{cases_lt, cases_eq}
use Rattle.std.proofs.lemmas.Option.{slice_get_within}
use Rattle.std.specs.Prelude.{if◌then◌else◌}
use Rattle.ds_base.specs.declared.sectors.Sector.{Sector}
use Rattle.ds_tree.specs.PlainPass.{list_at}
use Rattle.ds_tree.specs.declared.scenarios.Directive.{Directive}
use Rattle.ds_tree.specs.declared.scenarios.Directive.TheVariants as directives
use Rattle.ds_tree.specs.declared.scenarios.Scenario.{Scenario}
use Rattle.ds_log.specs.declared.logs.Step.{Step}
use Rattle.ds_log.specs.declared.logs.Step.TheVariants.{Local, Sent}
use Rattle.ds_log_order.specs.Follows.{Carries, IsCallStep, IsNext}
use Rattle.ds_log_order.specs.HostFacts.{HostFacts, mark_of}
use Rattle.ds_log_order.specs.LogProgress.{moved_own, progress}
use Rattle.ds_log_order.specs.Progress.{advance, called, died, gone_on}
use Rattle.ds_log_order.specs.Told.{Told}
use Rattle.ds_log_order.specs.TurnsLeft.{total, turns_in, turns_left}
use Rattle.ds_log_order.specs.declared.progress.Arm.TheVariants as arms
use Rattle.ds_log_order.specs.declared.progress.Mark.{Mark}
use Rattle.ds_log_order.specs.declared.progress.Progress.{Progress}
use Rattle.ds_log_order.proofs.Advancing.{progress-other, progress-own}
use Rattle.ds_log_order.proofs.Waiting.{length-past}

-- a host comes to a later directive, or sends one more command of those that a call may send
abbrev Gains : Progress → Progress → Type 0
Gains p q = (p.finished < q.finished) ⊎ ((q.finished ≡ p.finished) × (q.sent ≡ suc p.sent) × (p.sent < 4096))

gains-fall : (list : List Directive) (p q : Progress) → p.finished < length list → Gains p q → turns_left list q < turns_left list p
gains-fall list p q within (inl later) = omega (arith, later)
gains-fall list p q within (inr more) = omega (arith, more.0, more.1, more.2)

pub few-left : (facts : HostFacts) (start : List Sector) (past : List Told) (p : Progress) (t : Told) (ends : Bool) (step : Step)
    → IsCallStep facts start past p t ends step → ends ≡ false → p.sent < 4096
few-left facts start past p t ends Local is goes = absurd cc
few-left facts start past p t ends (Sent under command response landed took) is goes = is.few

call-gains : (list : List Directive) (p : Progress) (mark : Mark) (dies ends : Bool) → (ends ≡ false → p.sent < 4096)
    → Gains p (if dies then died list p else (if ends then gone_on p arms.Nothing p.alive else called p mark))
call-gains list p mark true ends few = inl (omega arith)
call-gains list p mark false true few = inl (omega arith)
call-gains list p mark false false few = inr (refl, refl, few refl)

advance-gains : (facts : HostFacts) (start : List Sector) (past : List Told) (list : List Directive) (p : Progress) (t : Told)
    (d : Directive) (mark : Mark)
    → Carries facts start past p t mark.ends d → Gains p (advance list (Some d) p mark)
advance-gains facts start past list p t (directives.Call call bind) mark is =
    call-gains list p mark mark.dies mark.ends (few-left facts start past p t mark.ends t.event.step is.0)
advance-gains facts start past list p t directives.Die mark is = inl (omega arith)
advance-gains facts start past list p t _ mark is = inl (omega arith)

total-le : (n : ℕ) (before after : ℕ → ℕ) → ((j : ℕ) → after j ≤ before j) → total n after ≤ total n before
total-le zero before after le = omega arith
total-le (suc n) before after le = omega (arith, le n, total-le n before after le)

total-falls : (n i : ℕ) (before after : ℕ → ℕ) → i < n → after i < before i → ((j : ℕ) → after j ≤ before j)
    → total n after < total n before
total-falls zero i before after within falls le = absurd (omega arith)
total-falls (suc n) i before after within falls le =
    elim (cases_lt i n) [
      | inl below ↦ omega (arith, le n, total-falls n i before after below falls le)
      | inr last ↦
          let same : i ≡ n = omega arith in
          let here : after n < before n = subst (λ (k : ℕ). after k < before k) same falls in
          omega (arith, here, total-le n before after le)
    ]

module _ (facts : HostFacts) (start : List Sector) (s : Scenario) where
  -- an event is the next of a host that has a directive left
  pub next-within : (past : List Told) (t : Told) → IsNext facts start s past t
      → (progress facts s.hosts t.event.host past).finished < length (list_at s.hosts t.event.host)
  next-within past t next = slice_get_within _ _ next.directive next.going.is_due

  pub next-there : (past : List Told) (t : Told) → IsNext facts start s past t → t.event.host < length s.hosts
  next-there past t next = elim (cases_lt t.event.host (length s.hosts)) [
    | inl there ↦ there
    | inr beyond ↦ absurd (omega (arith, length-past s.hosts t.event.host beyond, next-within past t next))
  ]

  own-falls : (past : List Told) (t : Told) → IsNext facts start s past t
      → turns_left (list_at s.hosts t.event.host) (progress facts s.hosts t.event.host (past ++ t ∷ []))
      < turns_left (list_at s.hosts t.event.host) (progress facts s.hosts t.event.host past)
  own-falls past t next =
      let list = list_at s.hosts t.event.host in
      let p = progress facts s.hosts t.event.host past in
      let gains : Gains p (moved_own facts s.hosts t.event.host past p t) =
      subst (λ (d : Option Directive). Gains p (advance list d p (mark_of facts past p t))) (sym next.going.is_due)
      (advance-gains facts start past list p t next.directive (mark_of facts past p t) next.carries) in
      subst (λ (q : Progress). turns_left list q < turns_left list p) (sym (progress-own facts s.hosts t.event.host past t refl))
      (gains-fall list p (moved_own facts s.hosts t.event.host past p t) (next-within past t next) gains)

  pub turns-fall : (past : List Told) (t : Told) → IsNext facts start s past t → turns_in facts s (past ++ t ∷ []) < turns_in facts s past
  turns-fall past t next = total-falls (length s.hosts) t.event.host _ _ (next-there past t next) (own-falls past t next)
      (λ j. elim (cases_eq t.event.host j) [
        | inl same ↦ subst (λ (h : ℕ). turns_left (list_at s.hosts h) (progress facts s.hosts h (past ++ t ∷ []))
            ≤ turns_left (list_at s.hosts h) (progress facts s.hosts h past)) same (omega (arith, own-falls past t next))
        | inr differs ↦ omega (arith, ap (turns_left (list_at s.hosts j)) (progress-other facts s.hosts j past t differs))
      ])

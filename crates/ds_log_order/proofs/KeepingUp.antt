-- What a world keeps of how far its hosts have come, after one event more; and when an event is the next.
use Rattle.std.proofs.Common.{
  ◌≡◌,
  ℕ,
  zero,
  suc,
  ◌+◌,
  ◌^◌,
  ◌<◌,
  ◌≤◌,
  inl,
  inr,
  Bool,
  true,
  false,
  List,
  [],
  ◌∷◌,
  ◌++◌,
  length,
  set,
  refl,
  ap,
  sym,
  subst,
  ◌∙◌,
  arith,
  Option,
  Some,
  None,
}
use Rattle.std.proofs.lemmas.Bool.{cases_eq}
use Rattle.std.proofs.lemmas.List.{length-set}
use Rattle.std.specs.Prelude.{slice_get, if◌then◌else◌}
use Rattle.ds_base.specs.declared.sectors.Sector.{Sector}
use Rattle.ds_tree.specs.PlainPass.{list_at}
use Rattle.ds_tree.specs.declared.scenarios.Directive.{Directive}
use Rattle.ds_tree.specs.declared.scenarios.Directive.TheVariants as directives
use Rattle.ds_tree.specs.declared.scenarios.Scenario.{Scenario}
use Rattle.ds_log.specs.Scripts.{directive_at, ticks_of}
use Rattle.ds_log.specs.declared.logs.Event.{Event}
use Rattle.ds_log.specs.declared.logs.Step.TheVariants.{Local}
use Rattle.ds_log.proofs.Pushes.{sum_by-push}
use Rattle.ds_log_order.specs.Follows.{Carries, IsNext, clock, is_call, is_death}
use Rattle.ds_log_order.specs.HostFacts.{HostFacts, mark_of}
use Rattle.ds_log_order.specs.KeepsUp.{KeepsUp}
use Rattle.ds_log_order.specs.LogProgress.{moved_own, progress, progresses}
use Rattle.ds_log_order.specs.Progress.{advance, called, died, gone_on}
use Rattle.ds_log_order.specs.Told.{Told}
use Rattle.ds_log_order.specs.Waiting.{IsGoing, IsStill, Stands, progress_in, waits}
use Rattle.ds_log_order.specs.declared.progress.Arm.TheVariants as arms
use Rattle.ds_log_order.specs.declared.progress.Mark.{Mark}
use Rattle.ds_log_order.specs.declared.progress.Progress.{Progress}
use Rattle.ds_log_order.specs.declared.progress.Stance.{Stance}
use Rattle.ds_log_order.proofs.Advancing.{progress-other, progress-own}
use Rattle.ds_log_order.proofs.Ending.{few-left, next-within, turns-fall}
use Rattle.ds_log_order.proofs.Telling.{with_reply}

in-set_same : (kept : List Progress) (i : ℕ) (p : Progress) → i < length kept → progress_in (set kept i p) i ≡ p
in-set_same [] i p h = absurd (omega arith)
in-set_same (q ∷ kept) zero p h = refl
in-set_same (q ∷ kept) (suc i) p h = in-set_same kept i p (omega arith)

in-set_other : (kept : List Progress) (i j : ℕ) (p : Progress) → (i ≡ j → ⊥) → progress_in (set kept i p) j ≡ progress_in kept j
in-set_other [] i j p other = refl
in-set_other (q ∷ kept) zero zero p other = absurd (other refl)
in-set_other (q ∷ kept) zero (suc j) p other = refl
in-set_other (q ∷ kept) (suc i) zero p other = refl
in-set_other (q ∷ kept) (suc i) (suc j) p other = in-set_other kept i j p (λ e. other (ap suc e))

call-few : (list : List Directive) (p : Progress) (mark : Mark) (dies ends : Bool) → (ends ≡ false → p.sent < 4096)
    → (if dies then died list p else (if ends then gone_on p arms.Nothing p.alive else called p mark)).sent ≤ 4096
call-few list p mark true ends few = omega arith
call-few list p mark false true few = omega arith
call-few list p mark false false few = omega (arith, few refl)

advance-few : (facts : HostFacts) (start : List Sector) (past : List Told) (list : List Directive) (p : Progress) (t : Told) (d : Directive)
    (mark : Mark)
    → Carries facts start past p t mark.ends d → (advance list (Some d) p mark).sent ≤ 4096
advance-few facts start past list p t (directives.Call call bind) mark is =
    call-few list p mark mark.dies mark.ends (few-left facts start past p t mark.ends t.event.step is.0)
advance-few facts start past list p t directives.Die mark is = omega arith
advance-few facts start past list p t _ mark is = omega arith

-- the marks of a directive that isn't a call tell nothing
pub local-advance : (list : List Directive) (d : Directive) (p : Progress) (m n : Mark) → is_call d ≡ false
    → advance list (Some d) p m ≡ advance list (Some d) p n
local-advance list (directives.Call call bind) p m n no_call = absurd cc
local-advance list directives.Die p m n no_call = refl
local-advance list _ p m n no_call = refl

local-carries : (facts : HostFacts) (start : List Sector) (past : List Told) (p : Progress) (e : Event) (ends : Bool) (d : Directive)
    → is_call d ≡ false → e.step ≡ Local → e.dies ≡ is_death d
    → Carries facts start past p (with_reply e None) ends d
local-carries facts start past p e ends (directives.Call call bind) no_call step dies = absurd cc
local-carries facts start past p e ends directives.Die no_call step dies = (step, refl, dies)
local-carries facts start past p e ends _ no_call step dies = (step, refl, dies)

module _ (facts : HostFacts) (start : List Sector) (s : Scenario) where
  clock-push : (past : List Told) (t : Told) → IsNext facts start s past t
      → clock s (past ++ t ∷ [])
      ≡ clock s past + ticks_of (slice_get (list_at s.hosts t.event.host) (progress facts s.hosts t.event.host past).finished)
  clock-push past t next =
      sum_by-push (λ (u : Told). ticks_of (directive_at s u.event.host u.event.directive)) past t
      ∙ ap (λ (n : ℕ). clock s past + ticks_of (directive_at s t.event.host n)) next.number

  module _ (kept : List Progress) (tick : ℕ) (log : List Told) (keeps : KeepsUp facts s kept tick log) where
    same_kept : progress_in kept ≡ progresses facts s.hosts log
    same_kept = λ i h. keeps.each h i

    -- what the kept progress tells of a host's next turn is so
    pub stands-kept : (host : ℕ) (stance : Stance) → Stands s.hosts (progress_in kept) host stance
        → Stands s.hosts (progresses facts s.hosts log) host stance
    stands-kept host stance is = subst (λ (at : ℕ → Progress). Stands s.hosts at host stance) same_kept is

    pub going-kept : (host : ℕ) (d : Directive) → IsGoing s.hosts (progress_in kept) host d
        → IsGoing s.hosts (progresses facts s.hosts log) host d
    going-kept host d is = subst (λ (at : ℕ → Progress). IsGoing s.hosts at host d) same_kept is

    -- after an event
    pub keeps-push : (t : Told) (after : Progress) (later : ℕ) → t.event.host < length kept → IsNext facts start s log t
        → after ≡ moved_own facts s.hosts t.event.host log (progress_in kept t.event.host) t
        → later ≡ tick + ticks_of (slice_get (list_at s.hosts t.event.host) (progress_in kept t.event.host).finished)
        → ticks_of (slice_get (list_at s.hosts t.event.host) (progress_in kept t.event.host).finished) < 2 ^ 32
        → KeepsUp facts s (set kept t.event.host after) later (log ++ t ∷ [])
    keeps-push t after later within next moves ticks small = record {
      count = length-set kept t.event.host after ∙ keeps.count;
      each = λ h. elim (cases_eq t.event.host h) [
        | inl same ↦ subst (λ (k : ℕ). progress_in (set kept t.event.host after) k ≡ progress facts s.hosts k (log ++ t ∷ [])) same
            (in-set_same kept t.event.host after within ∙ after_is ∙ sym (progress-own facts s.hosts t.event.host log t refl))
        | inr differs ↦ in-set_other kept t.event.host h after differs ∙ keeps.each h ∙ sym (progress-other facts s.hosts h log t differs)
      ];
      few = λ h. elim (cases_eq t.event.host h) [
        | inl same ↦ subst (λ (k : ℕ). (progress_in (set kept t.event.host after) k).sent ≤ 4096) same
            (subst (λ (r : Progress). r.sent ≤ 4096) (sym (in-set_same kept t.event.host after within ∙ after_is)) few_after)
        | inr differs ↦ subst (λ (r : Progress). r.sent ≤ 4096) (sym (in-set_other kept t.event.host h after differs)) (keeps.few h)
      ];
      ticked = ticks
          ∙ (ap (λ (n : ℕ). n + ticks_of here) keeps.ticked ∙ ap (λ (n : ℕ). clock s log + n) same_ticks ∙ sym (clock-push log t next));
      room = omega (arith, keeps.room, turns-fall facts start s log t next, small, ticks);
    } where
      list : List Directive
      list = list_at s.hosts t.event.host

      p : Progress
      p = progress_in kept t.event.host

      q : Progress
      q = progress facts s.hosts t.event.host log

      here : Option Directive
      here = slice_get list p.finished

      same_p : p ≡ q
      same_p = keeps.each t.event.host

      same_ticks : ticks_of here ≡ ticks_of (slice_get list q.finished)
      same_ticks = ap (λ (r : Progress). ticks_of (slice_get list r.finished)) same_p

      after_is : after ≡ moved_own facts s.hosts t.event.host log q t
      after_is = moves ∙ ap (λ (r : Progress). moved_own facts s.hosts t.event.host log r t) same_p

      few_after : (moved_own facts s.hosts t.event.host log q t).sent ≤ 4096
      few_after = subst (λ (d : Option Directive). (advance list d q (mark_of facts log q t)).sent ≤ 4096) (sym next.going.is_due)
          (advance-few facts start log list q t next.directive (mark_of facts log q t) next.carries)

  -- a directive that isn't a call is carried out in one event
  pub local-next : (log : List Told) (e : Event) (d : Directive) → IsGoing s.hosts (progresses facts s.hosts log) e.host d
      → is_call d ≡ false
      → e.directive ≡ suc (progress facts s.hosts e.host log).finished → e.at ≡ clock s log → e.step ≡ Local → e.dies ≡ is_death d
      → IsNext facts start s log (with_reply e None)
  local-next log e d going no_call number at step dies = record {
    directive = d;
    going = going;
    number = number;
    carries = local-carries facts start log (progress facts s.hosts e.host log) e
        (facts.rests (log ++ with_reply e None ∷ []) e.host) d no_call step dies;
    tick = at;
    replied = λ r is. absurd cc;
  }

  -- a host that rests or has ended has no next event
  pub next-goes : (log : List Told) (t : Told) → IsNext facts start s log t → IsStill s.hosts (progresses facts s.hosts log) t.event.host
      → ⊥
  next-goes log t next (inl ended) = omega (arith, ended, next-within facts start s log t next)
  next-goes log t next (inr rests) =
      omega (
        arith,
        rests.ahead,
        next.going.met rests.other rests.number
            (ap (λ (d : Option Directive). waits d (progress facts s.hosts t.event.host log).arm) (sym next.going.is_due) ∙ rests.for_it),
      )

-- A log that follows a scenario, with one event or one reply more.
use Rattle.std.proofs.Common.{◌≡◌, ℕ, ◌+◌, ◌≤◌, inl, inr, Bool, false, List, [], ◌∷◌, ◌++◌, length, take, ap, sym, subst, ◌∙◌, arith, cond, None}
use Rattle.std.specs.Prelude.{slice_get, if◌then◌else◌}
use Rattle.std.proofs.lemmas.Bool.Decides.{nat_tests}
use Rattle.std.proofs.lemmas.List.{length-take-le}
use Rattle.ds_base.specs.declared.sectors.Sector.{Sector}
use Rattle.ds_tree.specs.declared.calls.HostCallOf.TheVariants as host_calls
use Rattle.ds_tree.specs.declared.scenarios.Directive.{Directive}
use Rattle.ds_tree.specs.declared.scenarios.Directive.TheVariants as directives
use Rattle.ds_tree.specs.declared.scenarios.Scenario.{Scenario}
use Rattle.ds_log.specs.declared.logs.Step.{Step}
use Rattle.ds_log.specs.declared.logs.Step.TheVariants.{Local, Sent}
use Rattle.ds_log.specs.declared.logs.Event.{Event}
use Rattle.ds_log.specs.declared.logs.Reply.{Reply}
use Rattle.ds_log.specs.History.{IsGiven}
use Rattle.ds_log.specs.Scripts.{list_of}
use Rattle.ds_log.specs.Follows.{is_reply_before, finished, generation_given, holding, held, Carries, IsNext, Follows}
use Rattle.ds_log.proofs.Pushes.{get-push_old, get-push_last, get-push_cases, get-within, count_by-push, fold-push}
use Rattle.ds_log.proofs.Growing.{EachEvent-push, EachEvent-map}
use Rattle.ds_log.proofs.Legal.{IsGiven-push}

-- a reply that isn't before an event
pub reply_later : (host n : ℕ) (r : Reply) → n ≤ r.event → is_reply_before host n r ≡ false
reply_later host n r le = grind (arith, nat_tests)

pub finished-later : (replies : List Reply) (r : Reply) (host n : ℕ) → n ≤ r.event
    → finished (replies ++ r ∷ []) host n ≡ finished replies host n
finished-later replies r host n le =
    omega (arith, count_by-push (is_reply_before host n) replies r, ap (λ (b : Bool). cond {A = ℕ} b 1 0) (reply_later host n r le))

pub held-later : (replies : List Reply) (r : Reply) (host n : ℕ) → n ≤ r.event → held (replies ++ r ∷ []) host n ≡ held replies host n
held-later replies r host n le =
    fold-push (holding host n) None replies r
    ∙ ap (λ (b : Bool). if b then generation_given r.answer (held replies host n) else held replies host n) (reply_later host n r le)

module _ (start : List Sector) (s : Scenario) where
  Carries-reply : (replies : List Reply) (r : Reply) (past : List Event) (e : Event) (d : Directive) (step : Step) → length past ≤ r.event
      → Carries start replies past e d step → Carries start (replies ++ r ∷ []) past e d step
  Carries-reply replies r past e (directives.Call host_calls.Register bind) Local le c =
      (c.0, (c.1.0, get-push_old replies r c.1.0 c.0 c.1.1, c.1.2))
  Carries-reply replies r past e (directives.Call (host_calls.Tree call) bind) (Sent under command response landed took) le c = record {
    holds = c.holds ∙ sym (held-later replies r e.host (length past) le);
    lands = c.lands;
    answers = c.answers;
    effect = c.effect;
    few = c.few;
  }
  Carries-reply replies r past e _ _ le c = absurd c

  IsNext-reply : (replies : List Reply) (r : Reply) (past : List Event) (e : Event) → length past ≤ r.event
      → IsNext start s replies past e → IsNext start s (replies ++ r ∷ []) past e
  IsNext-reply replies r past e le next =
      let same = finished-later replies r e.host (length past) le in
      record {
        directive = next.directive;
        due = ap (λ (n : ℕ). slice_get (list_of s e.host) n) same ∙ next.due;
        number = next.number ∙ sym (ap (λ (n : ℕ). n + 1) same);
        carries = Carries-reply replies r past e next.directive e.step le next.carries;
        tick = next.tick;
        lives = next.lives;
      }

  pub follows-event : (events : List Event) (replies : List Reply) (e : Event)
      → IsNext start s replies events e → Follows start s events replies → Follows start s (events ++ e ∷ []) replies
  follows-event events replies e next follows = record {
    next = EachEvent-push (IsNext start s replies) events e follows.next next;
    given = λ i r at. IsGiven-push events e r (follows.given i r at);
    rising = follows.rising;
  }

  -- an event that gives a reply
  pub follows-answered : (events : List Event) (replies : List Reply) (e : Event) (r : Reply) → r.event ≡ length events → e.host ≡ r.host
      → e.directive ≡ r.directive
      → IsNext start s (replies ++ r ∷ []) events e → Follows start s events replies
      → Follows start s (events ++ e ∷ []) (replies ++ r ∷ [])
  follows-answered events replies e r here host directive next follows = record {
    next = EachEvent-push (IsNext start s (replies ++ r ∷ [])) events e
        (EachEvent-map (IsNext start s replies) (IsNext start s (replies ++ r ∷ [])) events
        (λ n d at was. IsNext-reply replies r (take n events) d
        (omega (arith, here, get-within events n d at, length-take-le n events (omega (arith, get-within events n d at)))) was)
        follows.next)
        next;
    given = λ i q at. elim (get-push_cases replies r q i at) [
      | inl old ↦ IsGiven-push events e q (follows.given i q old)
      | inr now ↦ let P : Reply → Type 0 = λ y. IsGiven (events ++ e ∷ []) y in
          subst P now.1 (record {
            event = e;
            there = ap (λ (n : ℕ). slice_get (events ++ e ∷ []) n) here ∙ get-push_last events e;
            is_of = (host, directive);
          })
    ];
    rising = λ i j a b less at there. elim (get-push_cases replies r b j there) [
      | inl old ↦ elim (get-push_cases replies r a i at) [
        | inl too ↦ follows.rising i j a b less too old
        | inr now ↦ absurd (omega (arith, get-within replies j b old, now.0))
      ]
      | inr now ↦ elim (get-push_cases replies r a i at) [
        | inl too ↦
            let was = follows.given i a too in
            omega (arith, get-within events a.event was.event was.there, ap (λ (y : Reply). y.event) now.1, here)
        | inr too ↦ absurd (omega (arith, now.0, too.0))
      ]
    ];
  }

-- A log with one event more, which may give a reply.
use Rattle.std.proofs.Common.{
  ◌≡◌,
  ℕ,
  suc,
  ◌+◌,
  ◌<◌,
  ◌≤◌,
  ◌==◌,
  inl,
  inr,
  List,
  [],
  ◌∷◌,
  ◌++◌,
  length,
  refl,
  ap,
  sym,
  subst,
  ◌∙◌,
  arith,
  Option,
  Some,
  None,
}
use Rattle.std.proofs.lemmas.Bool.Decides.{eqb_tells}
use Rattle.std.specs.Prelude.{slice_get, if◌then◌else◌}
use Rattle.ds_base.specs.declared.sectors.Sector.{Sector}
use Rattle.ds_tree.specs.declared.scenarios.Scenario.{Scenario}
use Rattle.ds_log.specs.declared.logs.Event.{Event}
use Rattle.ds_log.specs.declared.logs.Reply.{Reply}
use Rattle.ds_log.proofs.Growing.{Each-push}
use Rattle.ds_log.proofs.Pushes.{get-push_cases, get-within, length-push}
use Rattle.ds_log_order.specs.Follows.{Follows, IsFollowing, IsNext}
use Rattle.ds_log_order.specs.HostFacts.{HostFacts}
use Rattle.ds_log_order.specs.Told.{Told, reply_at, told, told_from}
use Rattle.ds_log_order.proofs.Advancing.{choose, choose_first}

reply_at-other : (replies : List Reply) (r : Reply) (n : ℕ) → (r.event ≡ n → ⊥) → reply_at (replies ++ r ∷ []) n ≡ reply_at replies n
reply_at-other [] r n other = elim (eqb_tells r.event n) [
  | inl same ↦ absurd (other same.1)
  | inr differs ↦ choose {A = Option Reply} (r.event == n) (Some r) None differs.0
]
reply_at-other (q ∷ replies) r n other = ap (λ (o : Option Reply). if q.event == n then Some q else o) (reply_at-other replies r n other)

abbrev pub AreBefore : List Reply → ℕ → Type 0
AreBefore replies n = (i : ℕ) (r : Reply) → slice_get replies i ≡ Some r → r.event < n

reply_at-none : (replies : List Reply) (n : ℕ) → AreBefore replies n → reply_at replies n ≡ None
reply_at-none [] n before = refl
reply_at-none (q ∷ replies) n before = elim (eqb_tells q.event n) [
  | inl same ↦ absurd (omega (arith, before 0 q refl, same.1))
  | inr differs ↦ choose {A = Option Reply} (q.event == n) (Some q) (reply_at replies n) differs.0
      ∙ reply_at-none replies n (λ i r at. before (suc i) r at)
]

reply_at-last : (replies : List Reply) (r : Reply) (n : ℕ) → AreBefore replies n → r.event ≡ n → reply_at (replies ++ r ∷ []) n ≡ Some r
reply_at-last [] r n before e = elim (eqb_tells r.event n) [
  | inl same ↦ choose_first {A = Option Reply} (r.event == n) (Some r) None same.0
  | inr differs ↦ absurd (differs.1 e)
]
reply_at-last (q ∷ replies) r n before e = elim (eqb_tells q.event n) [
  | inl same ↦ absurd (omega (arith, before 0 q refl, same.1))
  | inr differs ↦ choose {A = Option Reply} (q.event == n) (Some q) (reply_at (replies ++ r ∷ []) n) differs.0
      ∙ reply_at-last replies r n (λ i s at. before (suc i) s at) e
]

told_from-push : (replies : List Reply) (n m : ℕ) (events : List Event) (e : Event) → m ≡ n + length events
    → told_from replies n (events ++ e ∷ []) ≡ told_from replies n events ++ record { event = e; reply = reply_at replies m } ∷ []
told_from-push replies n m [] e same =
    ap (λ (k : ℕ). let t : Told = record { event = e; reply = reply_at replies k } in t ∷ []) (let p : n ≡ m = omega arith in p)
told_from-push replies n m (d ∷ events) e same =
    ap (λ (ts : List Told). let t : Told = record { event = d; reply = reply_at replies n } in t ∷ ts)
    (told_from-push replies (suc n) m events e (omega arith))

told_from-reply : (replies : List Reply) (r : Reply) (n : ℕ) (events : List Event) → n + length events ≤ r.event
    → told_from (replies ++ r ∷ []) n events ≡ told_from replies n events
told_from-reply replies r n [] later = refl
told_from-reply replies r n (d ∷ events) later =
    ap (λ (o : Option Reply). let t : Told = record { event = d; reply = o } in t ∷ told_from (replies ++ r ∷ []) (suc n) events)
    (reply_at-other replies r n (λ same. omega arith))
    ∙ ap (λ (ts : List Told). let t : Told = record { event = d; reply = reply_at replies n } in t ∷ ts)
    (told_from-reply replies r (suc n) events (omega arith))

told-length_from : (replies : List Reply) (n : ℕ) (events : List Event) → length (told_from replies n events) ≡ length events
told-length_from replies n [] = refl
told-length_from replies n (d ∷ events) = ap suc (told-length_from replies (suc n) events)

pub told-length : (events : List Event) (replies : List Reply) → length (told events replies) ≡ length events
told-length events replies = told-length_from replies 0 events

abbrev pub with_reply : Event → Option Reply → Told
with_reply e reply = record { event = e; reply = reply }

-- an event that gives no reply
pub told-event : (events : List Event) (replies : List Reply) (e : Event) → AreBefore replies (length events)
    → told (events ++ e ∷ []) replies ≡ told events replies ++ with_reply e None ∷ []
told-event events replies e before =
    told_from-push replies 0 (length events) events e (omega arith)
    ∙ ap (λ (o : Option Reply). told events replies ++ with_reply e o ∷ []) (reply_at-none replies (length events) before)

-- an event that gives a reply
pub told-answered : (events : List Event) (replies : List Reply) (e : Event) (r : Reply) → AreBefore replies (length events)
    → r.event ≡ length events
    → told (events ++ e ∷ []) (replies ++ r ∷ []) ≡ told events replies ++ with_reply e (Some r) ∷ []
told-answered events replies e r before here =
    told_from-push (replies ++ r ∷ []) 0 (length events) events e (omega arith)
    ∙ ap (λ (o : Option Reply). told events (replies ++ r ∷ []) ++ with_reply e o ∷ [])
    (reply_at-last replies r (length events) before here)
    ∙ ap (λ (ts : List Told). ts ++ with_reply e (Some r) ∷ []) (told_from-reply replies r 0 events (omega arith))

module _ (facts : HostFacts) (start : List Sector) (s : Scenario) where
  pub follows-event : (events : List Event) (replies : List Reply) (e : Event) → Follows facts start s events replies
      → IsNext facts start s (told events replies) (with_reply e None) → Follows facts start s (events ++ e ∷ []) replies
  follows-event events replies e follows next = record {
    next = subst (IsFollowing facts start s) (sym (told-event events replies e follows.given))
        (Each-push (IsNext facts start s) (told events replies) (with_reply e None) follows.next next);
    given = λ i r at. omega (arith, follows.given i r at, length-push events e);
    rising = follows.rising;
  }

  pub follows-answered : (events : List Event) (replies : List Reply) (e : Event) (r : Reply) → r.event ≡ length events
      → Follows facts start s events replies
      → IsNext facts start s (told events replies) (with_reply e (Some r)) → Follows facts start s (events ++ e ∷ []) (replies ++ r ∷ [])
  follows-answered events replies e r here follows next = record {
    next = subst (IsFollowing facts start s) (sym (told-answered events replies e r follows.given here))
        (Each-push (IsNext facts start s) (told events replies) (with_reply e (Some r)) follows.next next);
    given = λ i q at. elim (get-push_cases replies r q i at) [
      | inl old ↦ omega (arith, follows.given i q old, length-push events e)
      | inr last ↦ omega (arith, ap (λ (y : Reply). y.event) last.1, here, length-push events e)
    ];
    rising = λ i j a b less at there. elim (get-push_cases replies r b j there) [
      | inl old ↦ elim (get-push_cases replies r a i at) [
        | inl too ↦ follows.rising i j a b less too old
        | inr last ↦ absurd (omega (arith, get-within replies j b old, last.0))
      ]
      | inr last ↦ elim (get-push_cases replies r a i at) [
        | inl too ↦ omega (arith, follows.given i a too, ap (λ (y : Reply). y.event) last.1, here)
        | inr too ↦ absurd (omega (arith, last.0, too.0))
      ]
    ];
  }

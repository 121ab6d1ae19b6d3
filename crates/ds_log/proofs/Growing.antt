-- A log with one event more.
use Rattle.std.proofs.Common.{◌≡◌, ℕ, zero, suc, ◌+◌, ◌≤◌, inl, inr, Bool, true, false, List, [], ◌∷◌, ◌++◌, length, take, refl, ap, sym, subst, arith, Some}
use Rattle.std.specs.Prelude.{slice_get, if◌then◌else◌}
use Rattle.std.proofs.Math.Nat.{eq-or-lt_of_le}
use Rattle.ds_base.specs.declared.sectors.Sector.{Sector}
use Rattle.ds_log.specs.declared.logs.Event.{Event}
use Rattle.ds_log.specs.Store.{after_step, store}
use Rattle.ds_log.specs.Moments.{AtEveryMoment, Each, EachEvent}
use Rattle.ds_log.specs.Rules.{Rules}
use Rattle.ds_log.specs.Commits.{commits_from, commits, commits_next}
use Rattle.ds_log.proofs.Pushes.{length-push, get-push_cases, get-within, take-push, take-push_last, take-push_whole}

pub store-push : (sectors : List Sector) (events : List Event) (e : Event)
    → store sectors (events ++ e ∷ []) ≡ after_step (store sectors events) e.step
store-push sectors [] e = refl
store-push sectors (d ∷ events) e = store-push (after_step sectors d.step) events e

-- 1 for a commit
abbrev pub one_if : Bool → ℕ
one_if b = if b then 1 else 0

pub commits_from-push : (rules : Rules) (sectors : List Sector) (events : List Event) (e : Event)
    → commits_from rules sectors (events ++ e ∷ [])
    ≡ commits_from rules sectors events + one_if (rules.is_commit (store sectors events) e.step)
commits_from-push rules sectors [] e = omega arith
commits_from-push rules sectors (d ∷ events) e = omega (arith, commits_from-push rules (after_step sectors d.step) events e)

pub commits-push : (rules : Rules) (events : List Event) (e : Event)
    → commits rules (events ++ e ∷ []) ≡ commits rules events + one_if (commits_next rules events e)
commits-push rules events e = commits_from-push rules rules.start events e

pub commits-push_none : (rules : Rules) (events : List Event) (e : Event) → commits_next rules events e ≡ false
    → commits rules (events ++ e ∷ []) ≡ commits rules events
commits-push_none rules events e none = omega (arith, commits-push rules events e, ap one_if none)

pub commits-push_one : (rules : Rules) (events : List Event) (e : Event) → commits_next rules events e ≡ true
    → commits rules (events ++ e ∷ []) ≡ commits rules events + 1
commits-push_one rules events e is = omega (arith, commits-push rules events e, ap one_if is)

-- a front of a log has no more commits
pub commits_from-take : (rules : Rules) (sectors : List Sector) (events : List Event) (n : ℕ)
    → commits_from rules sectors (take n events) ≤ commits_from rules sectors events
commits_from-take rules sectors events zero = omega arith
commits_from-take rules sectors [] (suc n) = omega arith
commits_from-take rules sectors (d ∷ events) (suc n) = omega (arith, commits_from-take rules (after_step sectors d.step) events n)

pub commits-take : (rules : Rules) (events : List Event) (n : ℕ) → commits rules (take n events) ≤ commits rules events
commits-take rules events n = commits_from-take rules rules.start events n

-- of two fronts the shorter has no more commits
pub commits-fronts : (rules : Rules) (events : List Event) (m n : ℕ) → m ≤ n → commits rules (take m events) ≤ commits rules (take n events)
commits-fronts rules events m n le = fronts rules.start events m n le where
  fronts : (sectors : List Sector) (es : List Event) (i j : ℕ) → i ≤ j
      → commits_from rules sectors (take i es) ≤ commits_from rules sectors (take j es)
  fronts sectors es zero j h = omega arith
  fronts sectors [] (suc i) j h = omega arith
  fronts sectors (d ∷ es) (suc i) zero h = absurd (omega arith)
  fronts sectors (d ∷ es) (suc i) (suc j) h = omega (arith, fronts (after_step sectors d.step) es i j (omega arith))

pub Each-push : {A : Type 0} (P : List A → A → Type 0) (xs : List A) (x : A) → Each P xs → P xs x → Each P (xs ++ x ∷ [])
Each-push {A} P xs x each here n y at =
    elim (get-push_cases xs x y n at) [
      | inl old ↦ let P' : List A → Type 0 = λ past. P past y in
          subst P' (sym (take-push xs x n (omega (arith, get-within xs n y old)))) (each n y old)
      | inr last ↦ let P' : List A → Type 0 = λ past. P past y in
          subst P' (sym (take-push_last xs x n last.0)) (subst (λ z. P xs z) last.1 here)
    ]

pub EachEvent-push : (P : List Event → Event → Type 0) (events : List Event) (e : Event)
    → EachEvent P events → P events e → EachEvent P (events ++ e ∷ [])
EachEvent-push P events e each here = Each-push P events e each here

-- what is known of each event gives something else of it
pub EachEvent-map : (P Q : List Event → Event → Type 0) (events : List Event)
    → ((n : ℕ) (e : Event) → slice_get events n ≡ Some e → P (take n events) e → Q (take n events) e) → EachEvent P events
    → EachEvent Q events
EachEvent-map P Q events f each n e at = f n e at (each n e at)

pub AtEveryMoment-push : (P : List Event → Type 0) (events : List Event) (e : Event) → AtEveryMoment P events → P (events ++ e ∷ [])
    → AtEveryMoment P (events ++ e ∷ [])
AtEveryMoment-push P events e every here n le =
    let at_most : n ≤ length events + 1 = omega (arith, length-push events e) in
    elim (eq-or-lt_of_le at_most) [
      | inl last ↦ subst P (sym (take-push_whole events e n last)) here
      | inr less ↦
          let old : n ≤ length events = omega arith in
          subst P (sym (take-push events e n old)) (every n old)
    ]

pub AtEveryMoment-map : (P Q : List Event → Type 0) (events : List Event) → ((past : List Event) → P past → Q past) → AtEveryMoment P events
    → AtEveryMoment Q events
AtEveryMoment-map P Q events f every n le = f (take n events) (every n le)

-- A note lengthens the run of its slot, or begins another one, and leaves those of the other slots.
use Rattle.std.proofs.Common.{◌≡◌, ◌≢◌, ℕ, zero, suc, ◌<◌, ◌⊎◌, inl, inr, true, false, cond, List, [], ◌∷◌, length, get_or, replicate, Option, Some, None, refl, sym, ap, subst, ◌∙◌, arith}
use Rattle.std.specs.Prelude.{◌↔◌, set}
use Rattle.std.specs.List.{Contains}
use Rattle.std.specs.Str.{bytes_eq}
use Rattle.std.proofs.lemmas.Bool.{cases_eq, cases_Bool}
use Rattle.std.proofs.lemmas.List.{get_or-set_same, get_or-set_other, get_or-replicate}
use Rattle.std.proofs.lemmas.Slice.Eq.{bytes_eq-Decides}
use Rattle.ds_base.specs.declared.sectors.Sector.{Sector}
use Rattle.ds_watch.specs.Notes.{Again, Begun, Elsewhere, IsRun, IsStale, Note, Nothing, Other, Passed, ShowsOther}
use Rattle.ds_watch.specs.Remembering.{HasNoNote, IsOld, Keeps, Remembers, since_of}
use Rattle.ds_watch.specs.declared.watch.Shown.{Shown}

abbrev note_of : ℕ → Sector → ℕ → Note
note_of slot image tick = record { slot = slot; image = image; tick = tick }

Contains-none : {X : Type 0} (x : X) → Contains [] x → ⊥
Contains-none x (k, within, is) = omega (arith, within)

Contains-cases : {X : Type 0} (xs : List X) (y x : X) → Contains (y ∷ xs) x → (y ≡ x) ⊎ Contains xs x
Contains-cases xs y x (zero, within, is) = inl is
Contains-cases xs y x (suc k, within, is) = inr (k, omega (arith, within), is)

Contains-first : {X : Type 0} (x : X) (xs : List X) → Contains (x ∷ xs) x
Contains-first x xs = (0, omega arith, refl)

Contains-later : {X : Type 0} (x y : X) (xs : List X) → Contains xs x → Contains (y ∷ xs) x
Contains-later x y xs (k, within, is) = (suc k, omega (arith, within), is)

same_sector : (a b : Sector) → a.bytes ≡ b.bytes → a ≡ b
same_sector a b e = grind (arith, e)

-- where no note is of the slot, none shows the image
none-shows : (slot : ℕ) (image : Sector) (notes : List Note) → HasNoNote slot notes → ShowsOther slot image notes
none-shows slot image [] none = Nothing
none-shows slot image (note ∷ notes) none =
    Elsewhere note notes (none note (Contains-first note notes))
    (none-shows slot image notes (λ other has. none other (Contains-later other note notes has)))

-- the newest notes are a run of one image, so they show no other
run-shows : (slot : ℕ) (image other : Sector) (since : ℕ) (notes : List Note) → image ≢ other → IsRun slot image since notes → ShowsOther slot other notes
run-shows slot image other since _ differs (Begun note notes at is when before) = Other note notes at (λ same. differs (sym is ∙ same))
run-shows slot image other since _ differs (Again note notes at is run) = Other note notes at (λ same. differs (sym is ∙ same))
run-shows slot image other since _ differs (Passed note notes elsewhere run) =
    Elsewhere note notes elsewhere (run-shows slot image other since notes differs run)

-- notes that show another image have no run of this one
shows-no_run : (slot : ℕ) (image : Sector) (since : ℕ) (notes : List Note) → ShowsOther slot image notes → IsRun slot image since notes → ⊥
shows-no_run slot image since _ Nothing run = elim run [ ]
shows-no_run slot image since _ (Other note notes at differs) (Begun _ _ at' is when before) = differs is
shows-no_run slot image since _ (Other note notes at differs) (Again _ _ at' is run) = differs is
shows-no_run slot image since _ (Other note notes at differs) (Passed _ _ elsewhere run) = elsewhere at
shows-no_run slot image since _ (Elsewhere note notes elsewhere shows) (Begun _ _ at is when before) = elsewhere at
shows-no_run slot image since _ (Elsewhere note notes elsewhere shows) (Again _ _ at is run) = elsewhere at
shows-no_run slot image since _ (Elsewhere note notes elsewhere shows) (Passed _ _ elsewhere' run) = shows-no_run slot image since notes shows run

-- the notes of a slot end with one run
one-run : (slot : ℕ) (image other : Sector) (since from : ℕ) (notes : List Note) → IsRun slot image since notes → IsRun slot other from notes
    → (image ≡ other) × (since ≡ from)
one-run slot image other since from _ (Begun note notes at is when before) (Begun _ _ at' is' when' before') = (sym is ∙ is', sym when ∙ when')
one-run slot image other since from _ (Begun note notes at is when before) (Again _ _ at' is' run) =
    absurd (shows-no_run slot image from notes before (subst (λ i. IsRun slot i from notes) (sym is' ∙ is) run))
one-run slot image other since from _ (Begun note notes at is when before) (Passed _ _ elsewhere run) = absurd (elsewhere at)
one-run slot image other since from _ (Again note notes at is run) (Begun _ _ at' is' when before) =
    absurd (shows-no_run slot other since notes before (subst (λ i. IsRun slot i since notes) (sym is ∙ is') run))
one-run slot image other since from _ (Again note notes at is run) (Again _ _ at' is' run') = one-run slot image other since from notes run run'
one-run slot image other since from _ (Again note notes at is run) (Passed _ _ elsewhere run') = absurd (elsewhere at)
one-run slot image other since from _ (Passed note notes elsewhere run) (Begun _ _ at is when before) = absurd (elsewhere at)
one-run slot image other since from _ (Passed note notes elsewhere run) (Again _ _ at is run') = absurd (elsewhere at)
one-run slot image other since from _ (Passed note notes elsewhere run) (Passed _ _ elsewhere' run') = one-run slot image other since from notes run run'

-- a run has a note of its slot
run-noted : (slot : ℕ) (image : Sector) (since : ℕ) (notes : List Note) → IsRun slot image since notes → HasNoNote slot notes → ⊥
run-noted slot image since notes run none = shows-no_run slot image since notes (none-shows slot image notes none) run

-- a slot's run after one more note of it
lengthened : (slot : ℕ) (image : Sector) (now : ℕ) (notes : List Note) (kept : Option Shown) → Keeps slot notes kept
    → IsRun slot image (since_of kept image now) (note_of slot image now ∷ notes)
lengthened slot image now notes None none = Begun (note_of slot image now) notes refl refl refl (none-shows slot image notes none)
lengthened slot image now notes (Some shown) run = by (cases_Bool (bytes_eq shown.image.bytes image.bytes))
  where
    by : (bytes_eq shown.image.bytes image.bytes ≡ true) ⊎ (bytes_eq shown.image.bytes image.bytes ≡ false)
        → IsRun slot image (cond (bytes_eq shown.image.bytes image.bytes) shown.since now) (note_of slot image now ∷ notes)
    by (inl same) =
        let is : shown.image ≡ image = same_sector shown.image image ((bytes_eq-Decides shown.image.bytes image.bytes).0 same) in
        subst (λ test. IsRun slot image (cond test shown.since now) (note_of slot image now ∷ notes)) (sym same)
        (Again (note_of slot image now) notes refl refl (subst (λ i. IsRun slot i shown.since notes) is run))
    by (inr other) =
        let differs : shown.image ≢ image = λ is. false-true (sym other ∙ (bytes_eq-Decides shown.image.bytes image.bytes).1 (ap (λ (s : Sector). s.bytes) is)) in
        subst (λ test. IsRun slot image (cond test shown.since now) (note_of slot image now ∷ notes)) (sym other)
        (Begun (note_of slot image now) notes refl refl refl (run-shows slot shown.image image shown.since notes differs run))
      where
        false-true : false ≡ true → ⊥
        false-true e = absurd cc

-- what is kept of a slot after a note of another one
passed : (slot : ℕ) (note : Note) (notes : List Note) (kept : Option Shown) → note.slot ≢ slot → Keeps slot notes kept → Keeps slot (note ∷ notes) kept
passed slot note notes None elsewhere none = λ other has. elim (Contains-cases notes note other has) [
  | inl is ↦ λ at. elsewhere (ap (λ (n : Note). n.slot) is ∙ at)
  | inr there ↦ none other there
]
passed slot note notes (Some shown) elsewhere run = Passed note notes elsewhere run

pub remembers_none : (kept : List (Option Shown)) → kept ≡ replicate 16 None → Remembers kept []
remembers_none kept is = record {
  each = λ slot within.
      let none : get_or kept slot None ≡ None = ap (λ (k : List (Option Shown)). get_or k slot None) is ∙ get_or-replicate 16 slot None None within in
      subst (Keeps slot []) (sym none) (λ note has. absurd (Contains-none note has));
}

pub remembers_note : (kept : List (Option Shown)) (notes : List Note) (slot : ℕ) (image : Sector) (now : ℕ) → length kept ≡ 16 → slot < 16
    → Remembers kept notes
    → Remembers (set kept slot (Some (record { image = image; since = since_of (get_or kept slot None) image now }))) (note_of slot image now ∷ notes)
remembers_note kept notes slot image now len within r = record { each = λ a below. at a below (cases_eq slot a) }
  where
    shown : Shown
    shown = record { image = image; since = since_of (get_or kept slot None) image now }

    at : (a : ℕ) → a < 16 → (slot ≡ a) ⊎ (slot ≡ a → ⊥) → Keeps a (note_of slot image now ∷ notes) (get_or (set kept slot (Some shown)) a None)
    at a below (inl same) =
        subst (λ (s : ℕ). Keeps s (note_of slot image now ∷ notes) (get_or (set kept slot (Some shown)) s None)) same
        (subst (Keeps slot (note_of slot image now ∷ notes)) (sym (get_or-set_same kept slot (Some shown) None (omega (arith, len, within))))
        (lengthened slot image now notes (get_or kept slot None) (r.each slot within)))
    at a below (inr other) =
        subst (Keeps a (note_of slot image now ∷ notes)) (sym (get_or-set_other kept slot a (Some shown) None (λ e. other (sym e))))
        (passed a (note_of slot image now) notes (get_or kept a None) other (r.each a below))

-- what is kept tells just the runs that are old enough
pub old-stale : (slot : ℕ) (image : Sector) (now : ℕ) (notes : List Note) (kept : Option Shown) → Keeps slot notes kept
    → IsOld kept image now ↔ IsStale notes slot image now
old-stale slot image now notes None none = (λ old. absurd old, λ stale. absurd (run-noted slot image stale.since notes stale.run none))
old-stale slot image now notes (Some shown) run = (
  λ old. record { since = shown.since; run = subst (λ i. IsRun slot i shown.since notes) old.0 run; old = old.1 },
  λ stale.
      let one = one-run slot shown.image image shown.since stale.since notes run stale.run in
      (one.0, omega (arith, one.1, stale.old)),
)

pub remembered-stale : (kept : List (Option Shown)) (notes : List Note) (slot : ℕ) (image : Sector) (now : ℕ) → slot < 16 → Remembers kept notes
    → IsOld (get_or kept slot None) image now ↔ IsStale notes slot image now
remembered-stale kept notes slot image now within r = old-stale slot image now notes (get_or kept slot None) (r.each slot within)

-- a test that tells what is old enough tells what is stale
pub stale_by : (kept : List (Option Shown)) (slot : ℕ) (image : Sector) (now : ℕ) (Test : Type 0) → slot < 16
    → Test ↔ IsOld (get_or kept slot None) image now → (notes : List Note) → Remembers kept notes → Test ↔ IsStale notes slot image now
stale_by kept slot image now Test within test notes r =
    let same = remembered-stale kept notes slot image now within r in
    (λ is. same.0 (test.0 is), λ stale. test.1 (same.1 stale))

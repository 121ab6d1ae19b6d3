-- What sectors hold that pairs were laid over.
use Rattle.std.proofs.Common.{◌≡◌, ◌≢◌, ℕ, ◌<◌, ◌≤◌, ◌==◌, ◌||◌, inl, inr, true, if◌then◌else◌, List, [], ◌∷◌, ◌++◌, length, get_or, slice_get, slice_set, Option, Some, refl, sym, ap, ◌∙◌, length-set, get_or-set_other, set-set, eq-eqb, ne_eqb, arith}
use Rattle.std.proofs.lemmas.Bool.{false≢true, cases_eq, cases_lt}
use Rattle.std.proofs.lemmas.Grind.{get_or-set_at}
use Rattle.std.proofs.lemmas.List.{set_comm}
use Rattle.std.proofs.lemmas.Option.{slice_get-get_or, slice_get_past}
use Rattle.std.specs.List.{list_any}
use Rattle.ds_base.specs.declared.geometry.Geom.{Geom}
use Rattle.ds_base.specs.declared.sectors.Sector.{Sector}
use Rattle.ds_layout.specs.Places.{blocks_at}
use Rattle.ds_image_parts.specs.Logical.{laid_over}
use Rattle.ds_image_parts.specs.Pending.{Pair}

-- what a place of a list holds after a write
pub slice_get-set : {X : Type 0} (xs : List X) (i k : ℕ) (x : X) → k < length xs → slice_get (slice_set xs i x) k ≡ (if i == k then Some x else slice_get xs k)
slice_get-set {X = X} xs i k x l =
    let within : k < length (slice_set xs i x) = omega (arith, length-set xs i x) in
    let read : slice_get (slice_set xs i x) k ≡ Some (get_or (slice_set xs i x) k x) = slice_get-get_or (slice_set xs i x) k x within in
    elim (cases_eq i k) as (λ _. slice_get (slice_set xs i x) k ≡ (if i == k then Some x else slice_get xs k)) [
      | inl e ↦ rw (eq-eqb i k e) (read ∙ ap Some (get_or-set_at xs i k x x (sym e) (omega (arith, e))))
      | inr apart ↦ rw (ne_eqb i k apart) (read ∙ ap Some (get_or-set_other xs i k x x (λ e. apart (sym e))) ∙ sym (slice_get-get_or xs k x l))
    ]

pub slice_get-set_same : {X : Type 0} (xs : List X) (i : ℕ) (x : X) → i < length xs → slice_get (slice_set xs i x) i ≡ Some x
slice_get-set_same xs i x within =
    slice_get-set xs i i x within ∙ ap (λ b. if b then Some x else slice_get xs i) (eq-eqb i i refl)

pub slice_get-set_other : {X : Type 0} (xs : List X) (i k : ℕ) (x : X) → i ≢ k → slice_get (slice_set xs i x) k ≡ slice_get xs k
slice_get-set_other xs i k x apart = elim (cases_lt k (length xs)) [
  | inl within ↦ slice_get-set xs i k x within ∙ ap (λ b. if b then Some x else slice_get xs k) (ne_eqb i k apart)
  | inr past ↦ slice_get_past (slice_set xs i x) k (omega (arith, length-set xs i x)) ∙ sym (slice_get_past xs k past)
]

-- the last pair of a number, or else what was there
abbrev pub picked : List Pair → ℕ → Option Sector → Option Sector
picked [] k there = there
picked (pair ∷ pairs) k there = picked pairs k (if pair.0 == k then Some pair.1 else there)

pub length-laid_over : (xs : List Sector) (pairs : List Pair) → length (laid_over xs pairs) ≡ length xs
length-laid_over xs [] = refl
length-laid_over xs (pair ∷ pairs) = length-laid_over (slice_set xs pair.0 pair.1) pairs ∙ length-set xs pair.0 pair.1

-- an image that has the sectors of all metadata has them after writes
pub whole-laid_over : (g : Geom) (image : List Sector) (pairs : List Pair) → blocks_at g ≤ length image → blocks_at g ≤ length (laid_over image pairs)
whole-laid_over g image pairs whole = omega (arith, whole, length-laid_over image pairs)

-- a sector that pairs were laid over is that of the last pair of its number, or what was there
pub laid_get : (xs : List Sector) (pairs : List Pair) (k : ℕ) → k < length xs → slice_get (laid_over xs pairs) k ≡ picked pairs k (slice_get xs k)
laid_get xs [] k l = refl
laid_get xs (pair ∷ pairs) k l =
    laid_get (slice_set xs pair.0 pair.1) pairs k (omega (arith, length-set xs pair.0 pair.1))
    ∙ ap (picked pairs k) (slice_get-set xs pair.0 k pair.1 l)

pub laid_over-append : (xs : List Sector) (ps qs : List Pair) → laid_over xs (ps ++ qs) ≡ laid_over (laid_over xs ps) qs
laid_over-append xs [] qs = refl
laid_over-append xs (p ∷ ps) qs = laid_over-append (slice_set xs p.0 p.1) ps qs

-- what is written at a pair's number leaves what the pairs make of the sectors
pub written_in_place : (xs : List Sector) (pairs : List Pair) (at : ℕ) (s : Sector) → list_any (λ pair. pair.0 == at) pairs ≡ true → laid_over (slice_set xs at s) pairs ≡ laid_over xs pairs
written_in_place xs [] at s found = absurd (false≢true found)
written_in_place xs (pair ∷ pairs) at s found =
    elim (cases_eq pair.0 at) [
      | inl here ↦ ap (λ ys. laid_over ys pairs) (rw here (set-set xs at s pair.1))
      | inr apart ↦
          let later : list_any (λ p. p.0 == at) pairs ≡ true = rw (sym (ap (λ b. b || list_any (λ p. p.0 == at) pairs) (ne_eqb pair.0 at apart))) found in
          ap (λ ys. laid_over ys pairs) (set_comm xs at pair.0 s pair.1 (λ e. apart (sym e)))
          ∙ written_in_place (slice_set xs pair.0 pair.1) pairs at s later
    ]

-- Which of several lists of pairs gives a sector.
use Rattle.std.proofs.Common.{◌≡◌, ◌≢◌, ℕ, zero, suc, ◌<◌, ◌==◌, ◌||◌, Bool, true, false, if◌then◌else◌, List, [], ◌∷◌, ◌++◌, take, get_or, slice_get, slice_set, Option, Some, refl, sym, ap, subst, ◌∙◌, inl, inr, eq-eqb, ne_eqb, arith}
use Rattle.std.specs.Prelude.{All}
use Rattle.std.specs.List.{flat_map}
use Rattle.std.proofs.lemmas.Bool.{false≢true, cases_eq}
use Rattle.std.proofs.lemmas.List.Elements.{All-nil, All-cons, All-head, All-tail}
use Rattle.std.proofs.lemmas.List.Folds.{list_any-append}
use Rattle.std.proofs.lemmas.Option.{same_Some}
use Rattle.ds_base.specs.declared.sectors.Sector.{Sector}
use Rattle.ds_image.specs.Asking.{targets_of}
use Rattle.ds_image_parts.specs.Pending.{Pair}
use Rattle.ds_image_parts.proofs.Journaling.LaidOver.{picked}
use Rattle.ds_image_laws.specs.Kept.{is_target}
use Rattle.ds_image_laws.specs.Shown.{AreInPlace}

-- One list

-- whether a pair behind the first is for a sector that the first isn't for
or-true : (b : Bool) → (b || true) ≡ true
or-true true = refl
or-true false = refl

pub target-later : (pair : Pair) (pairs : List Pair) (at : ℕ) → pair.0 ≢ at → is_target (pair ∷ pairs) at ≡ is_target pairs at
target-later pair pairs at apart = ap (λ b. b || is_target pairs at) (ne_eqb pair.0 at apart)

pub target-first : (pair : Pair) (pairs : List Pair) (at : ℕ) → pair.0 ≡ at → is_target (pair ∷ pairs) at ≡ true
target-first pair pairs at here = ap (λ b. b || is_target pairs at) (eq-eqb pair.0 at here)

-- what holds of all targets holds of each
pub target-holds : (P : ℕ → Type 0) (pairs : List Pair) (at : ℕ) → All P (targets_of pairs) → is_target pairs at ≡ true → P at
target-holds P [] at all found = absurd (false≢true found)
target-holds P (pair ∷ pairs) at all found = elim (cases_eq pair.0 at) [
  | inl here ↦ subst P here (All-head P pair.0 (targets_of pairs) all)
  | inr apart ↦ target-holds P pairs at (All-tail P pair.0 (targets_of pairs) all) (sym (target-later pair pairs at apart) ∙ found)
]

-- each pair's sector is a target
pub target-at : (pairs : List Pair) (i : ℕ) (pair : Pair) → slice_get pairs i ≡ Some pair → is_target pairs pair.0 ≡ true
target-at [] i pair got = absurd (cc)
target-at (p ∷ pairs) zero pair got = target-first p pairs pair.0 (ap (λ (q : Pair). q.0) (same_Some p pair got))
target-at (p ∷ pairs) (suc i) pair got = ap (λ b. (p.0 == pair.0) || b) (target-at pairs i pair got) ∙ or-true (p.0 == pair.0)

-- and what holds of each holds of all
pub targets-each : (P : ℕ → Type 0) (pairs : List Pair) → ((at : ℕ) → is_target pairs at ≡ true → P at) → All P (targets_of pairs)
targets-each P [] each = All-nil P
targets-each P (pair ∷ pairs) each =
    All-cons P pair.0 (targets_of pairs) (each pair.0 (target-first pair pairs pair.0 refl))
    (targets-each P pairs (λ at found. each at (ap (λ b. (pair.0 == at) || b) found ∙ or-true (pair.0 == at))))

pub picked-none : (pairs : List Pair) (at : ℕ) (there : Option Sector) → is_target pairs at ≡ false → picked pairs at there ≡ there
picked-none [] at there none = refl
picked-none (pair ∷ pairs) at there none = elim (cases_eq pair.0 at) [
  | inl here ↦ absurd (false≢true (sym none ∙ target-first pair pairs at here))
  | inr apart ↦
      ap (λ b. picked pairs at (if b then Some pair.1 else there)) (ne_eqb pair.0 at apart)
      ∙ picked-none pairs at there (sym (target-later pair pairs at apart) ∙ none)
]

pub picked-append : (ps qs : List Pair) (at : ℕ) (there : Option Sector) → picked (ps ++ qs) at there ≡ picked qs at (picked ps at there)
picked-append [] qs at there = refl
picked-append (p ∷ ps) qs at there = picked-append ps qs at (if p.0 == at then Some p.1 else there)

-- pairs that stand at their sectors change none
pub picked-in_place : (sectors : List Sector) (pairs : List Pair) (at : ℕ) → AreInPlace sectors pairs → picked pairs at (slice_get sectors at) ≡ slice_get sectors at
picked-in_place sectors [] at stand = refl
picked-in_place sectors (pair ∷ pairs) at stand =
    let Stands : Pair → Type 0 = λ p. slice_get sectors p.0 ≡ Some p.1 in
    let rest = picked-in_place sectors pairs at (All-tail Stands pair pairs stand) in
    elim (cases_eq pair.0 at) [
      | inl here ↦
          let first : Some pair.1 ≡ slice_get sectors at = sym (All-head Stands pair pairs stand) ∙ ap (slice_get sectors) here in
          ap (λ b. picked pairs at (if b then Some pair.1 else slice_get sectors at)) (eq-eqb pair.0 at here) ∙ ap (picked pairs at) first ∙ rest
      | inr apart ↦ ap (λ b. picked pairs at (if b then Some pair.1 else slice_get sectors at)) (ne_eqb pair.0 at apart) ∙ rest
    ]

-- Several lists

abbrev pub all_of : List (List Pair) → List Pair
all_of lists = flat_map (λ list. list) lists

pub targets-none : (lists : List (List Pair)) (at : ℕ) → ((n : ℕ) → is_target (get_or lists n []) at ≡ false) → is_target (all_of lists) at ≡ false
targets-none [] at none = refl
targets-none (l ∷ ls) at none =
    list_any-append (λ (pair : Pair). pair.0 == at) l (all_of ls)
    ∙ ap (λ b. b || is_target (all_of ls) at) (none 0)
    ∙ targets-none ls at (λ n. none (suc n))

-- a sector that one list alone is for is given by that list
pub picked-by_one : (lists : List (List Pair)) (n at : ℕ) (there : Option Sector) → ((k : ℕ) → k ≢ n → is_target (get_or lists k []) at ≡ false)
    → picked (all_of lists) at there ≡ picked (get_or lists n []) at there
picked-by_one [] n at there none = refl
picked-by_one (l ∷ ls) zero at there none =
    picked-append l (all_of ls) at there
    ∙ picked-none (all_of ls) at (picked l at there) (targets-none ls at (λ k. none (suc k) (λ e. absurd (omega (arith, e)))))
picked-by_one (l ∷ ls) (suc n) at there none =
    picked-append l (all_of ls) at there
    ∙ ap (picked (all_of ls) at) (picked-none l at there (none 0 (λ e. absurd (omega (arith, e)))))
    ∙ picked-by_one ls n at there (λ k apart. none (suc k) (λ e. apart (omega (arith, e))))

-- a list that isn't for the sector may be put in the place of another
pub picked-put : (lists : List (List Pair)) (n : ℕ) (qs : List Pair) (at : ℕ) (there : Option Sector) → is_target (get_or lists n []) at ≡ false
    → is_target qs at ≡ false → picked (all_of (slice_set lists n qs)) at there ≡ picked (all_of lists) at there
picked-put [] n qs at there was is = refl
picked-put (l ∷ ls) zero qs at there was is =
    picked-append qs (all_of ls) at there
    ∙ ap (picked (all_of ls) at) (picked-none qs at there is ∙ sym (picked-none l at there was))
    ∙ sym (picked-append l (all_of ls) at there)
picked-put (l ∷ ls) (suc n) qs at there was is =
    picked-append l (all_of (slice_set ls n qs)) at there
    ∙ picked-put ls n qs at (picked l at there) was is
    ∙ sym (picked-append l (all_of ls) at there)

-- a sector that one list is for is one that all lists are for
pub target-among : (lists : List (List Pair)) (n at : ℕ) → is_target (get_or lists n []) at ≡ true → is_target (all_of lists) at ≡ true
target-among [] n at found = absurd (false≢true found)
target-among (l ∷ ls) zero at found =
    list_any-append (λ (pair : Pair). pair.0 == at) l (all_of ls) ∙ ap (λ b. b || is_target (all_of ls) at) found
target-among (l ∷ ls) (suc n) at found =
    list_any-append (λ (pair : Pair). pair.0 == at) l (all_of ls)
    ∙ ap (λ b. is_target l at || b) (target-among ls n at found) ∙ or-true (is_target l at)

-- Sectors in front

pub slice_get-take : {X : Type 0} (n : ℕ) (xs : List X) (k : ℕ) → k < n → slice_get (take n xs) k ≡ slice_get xs k
slice_get-take zero xs k below = absurd (omega arith)
slice_get-take (suc n) [] k below = refl
slice_get-take (suc n) (x ∷ xs) zero below = refl
slice_get-take (suc n) (x ∷ xs) (suc k) below = slice_get-take n xs k (omega arith)

pub take-set : {X : Type 0} (n : ℕ) (xs : List X) (i : ℕ) (x : X) → take n (slice_set xs i x) ≡ slice_set (take n xs) i x
take-set zero xs i x = refl
take-set (suc n) [] i x = refl
take-set (suc n) (y ∷ xs) zero x = refl
take-set (suc n) (y ∷ xs) (suc i) x = ap (λ ys. y ∷ ys) (take-set n xs i x)

-- The lowest items that are clear, and marks that are set one after another.
use Rattle.std.proofs.Common.{◌≡◌, ◌≢◌, inl, inr, ℕ, zero, suc, ◌+◌, ◌<◌, ◌≤◌, Bool, true, false, List, [], ◌∷◌, ◌++◌, length, take, drop, Some, refl, sym, ap, subst, ◌∙◌, slice_get, slice_set, length-set, drop-cons, arith}
use Rattle.std.specs.Prelude.{slice_index}
use Rattle.std.proofs.lemmas.Bool.{cases_lt}
use Rattle.std.proofs.lemmas.List.{take_all, take-append-le, append-nil, get_or-set_other}
use Rattle.std.proofs.lemmas.Option.{slice_get_within, slice_get-get_or, get_or_from_slice_get}
use Rattle.ds_image_tables.specs.Owned.{CanMark}
use Rattle.ds_plan_resize.specs.Taking.{clear_from, lowest_clear}

-- a mark that is set doesn't touch others
set-apart : (bits : List Bool) (x y : ℕ) (b : Bool) → y ≢ x → slice_get bits y ≡ Some b → slice_get (slice_set bits x true) y ≡ Some b
set-apart bits x y b apart at =
    let within : y < length bits = slice_get_within bits y b at in
    slice_get-get_or (slice_set bits x true) y b (omega (arith, within, length-set bits x true))
    ∙ ap Some (get_or-set_other bits x y true b apart ∙ get_or_from_slice_get bits y b b at)

-- once the first is marked the others can be
pub can-next : (bits : List Bool) (x : ℕ) (xs : List ℕ) → CanMark bits (x ∷ xs) → CanMark (slice_set bits x true) xs
can-next bits x xs can = record {
  clear = λ i y at. set-apart bits x y false (λ same. absurd (let places : suc i ≡ 0 = can.once (suc i) 0 y at (ap Some (sym same)) in omega (arith, places))) (can.clear (suc i) y at);
  once = λ i j y one two. omega (arith, can.once (suc i) (suc j) y one two);
}

-- items that are clear

-- each stands at or past the number at which the search begins, and is clear
pub clear-at : (from : ℕ) (used : List Bool) (i x : ℕ) → slice_get (clear_from from used) i ≡ Some x → (k : ℕ) × (x ≡ from + k) × (slice_get used k ≡ Some false)
clear-at from [] i x at = absurd cc
clear-at from (true ∷ used) i x at =
    let rest = clear-at (suc from) used i x at in
    (suc rest.0, omega (arith, rest.1), rest.2)
clear-at from (false ∷ used) zero x at = let same : from ≡ x = cc in (0, omega (arith, same), refl)
clear-at from (false ∷ used) (suc i) x at =
    let rest = clear-at (suc from) used i x at in
    (suc rest.0, omega (arith, rest.1), rest.2)

-- they rise
pub clear-rises : (from : ℕ) (used : List Bool) (i j x y : ℕ) → i < j → slice_get (clear_from from used) i ≡ Some x → slice_get (clear_from from used) j ≡ Some y → x < y
clear-rises from [] i j x y l one two = absurd cc
clear-rises from (true ∷ used) i j x y l one two = clear-rises (suc from) used i j x y l one two
clear-rises from (false ∷ used) zero zero x y l one two = absurd (omega (arith, l))
clear-rises from (false ∷ used) zero (suc j) x y l one two =
    let same : from ≡ x = cc in
    omega (arith, same, clear-at (suc from) used j y two)
clear-rises from (false ∷ used) (suc i) zero x y l one two = absurd (omega (arith, l))
clear-rises from (false ∷ used) (suc i) (suc j) x y l one two = clear-rises (suc from) used i j x y (omega (arith, l)) one two

take-at : (n : ℕ) (xs : List ℕ) (i x : ℕ) → slice_get (take n xs) i ≡ Some x → slice_get xs i ≡ Some x
take-at zero xs i x at = absurd cc
take-at (suc n) [] i x at = absurd cc
take-at (suc n) (y ∷ xs) zero x at = at
take-at (suc n) (y ∷ xs) (suc i) x at = take-at n xs i x at

same-place : (i j : ℕ) → (i < j → ⊥) → (j < i → ⊥) → i ≡ j
same-place i j one other = elim (cases_lt i j) [
  | inl l ↦ absurd (one l)
  | inr up ↦ elim (cases_lt j i) [ inl l ↦ absurd (other l) | inr down ↦ omega (arith, up, down) ]
]

-- so the lowest can be marked
pub lowest-can : (most : ℕ) (used : List Bool) → CanMark used (lowest_clear most used)
lowest-can most used = record {
  clear = λ i x at.
      let found = clear-at 0 used i x (take-at most (clear_from 0 used) i x at) in
      subst (λ n. slice_get used n ≡ Some false) (let same : found.0 ≡ x = omega (arith, found.1) in same) found.2;
  once = λ i j x one two.
      let at = take-at most (clear_from 0 used) i x one in
      let at' = take-at most (clear_from 0 used) j x two in
      same-place i j (λ l. absurd (let less : x < x = clear-rises 0 used i j x x l at at' in omega (arith, less)))
      (λ l. absurd (let less : x < x = clear-rises 0 used j i x x l at' at in omega (arith, less)));
}

-- a list that is long enough is all that is taken
pub take-full : (most : ℕ) (xs ys : List ℕ) → length xs ≡ most → take most (xs ++ ys) ≡ xs
take-full most xs ys is = take-append-le most xs ys (omega (arith, is)) ∙ take_all most xs (omega (arith, is))

pub take-rest : (most : ℕ) (xs : List ℕ) → length xs ≤ most → take most (xs ++ []) ≡ xs
take-rest most xs few = ap (take most) (append-nil xs) ∙ take_all most xs few

-- one item after another
pub drop-step : (xs : List ℕ) (i : ℕ) → i < length xs → drop i xs ≡ slice_index xs i ∷ drop (i + 1) xs
drop-step xs i l =
    let one : suc i ≡ i + 1 = omega arith in
    drop-cons xs i 0 l ∙ ap (λ k. slice_index xs i ∷ drop k xs) one

-- There are as many marked items as listed ones.
use Rattle.std.proofs.Common.{◌≡◌, ◌≢◌, ℕ, zero, suc, ◌+◌, ◌<◌, cond, Bool, true, false, List, [], ◌∷◌, length, set, refl, sym, ap, ◌∙◌, arith, inl, inr}
use Rattle.std.specs.Prelude.{count_by, slice_get, Some}
use Rattle.std.specs.List.{sum_by}
use Rattle.std.proofs.lemmas.Bool.{cases_Bool, false≢true}
use Rattle.std.proofs.lemmas.List.{get_or-set_same, get_or-set_other}
use Rattle.std.proofs.lemmas.List.Sums.{sum_by-cons, sum_by-set}
use Rattle.ds_image_tables.specs.Owns.{IsAt, bit, Owns}
use Rattle.ds_image_tables.proofs.Spelling.Places.{marked-within}

-- how many items are marked
abbrev pub marked_count : List Bool → ℕ
marked_count bits = count_by (λ b. b) bits

abbrev number : Bool → ℕ
number b = cond b 1 0

none-marked : (bits : List Bool) → ((x : ℕ) → bit bits x ≡ false) → marked_count bits ≡ 0
none-marked [] clear = refl
none-marked (b ∷ bs) clear =
    sum_by-cons (λ (c : Bool). cond c 1 0) b bs ∙ omega (arith, ap number (clear 0), none-marked bs (λ x. clear (suc x)))

one-less : (bits : List Bool) (x : ℕ) → bit bits x ≡ true → marked_count bits ≡ marked_count (set bits x false) + 1
one-less bits x marked =
    omega (arith, sum_by-set (λ (c : Bool). cond c 1 0) bits x false false (marked-within bits x marked), ap number marked)

-- without the first item of the first list
owns-behead : (x : ℕ) (l : List ℕ) (ls : List (List ℕ)) (bits : List Bool) → Owns ((x ∷ l) ∷ ls) bits → Owns (l ∷ ls) (set bits x false)
owns-behead x l ls bits owns = record {
  once = λ o i p j y one two.
      let same = owns.once o (place o i) p (place p j) y (before o i y one) (before p j y two) in
      (same.0, back o i p j same.0 same.1);
  marked = λ o i y at. get_or-set_other bits x y false false (apart o i y at) ∙ owns.marked o (place o i) y (before o i y at);
  listed = λ y marked.
      let differ : y ≢ x = λ same. false≢true (sym (ap (bit (set bits x false)) same ∙ get_or-set_same bits x false false x_within) ∙ marked) in
      let at = owns.listed y (sym (get_or-set_other bits x y false false differ) ∙ marked) in
      (at.0, after at.0 at.1.0 y differ at.1.1);
}
  where
    x_within : x < length bits
    x_within = marked-within bits x (owns.marked 0 0 x refl)

    place : ℕ → ℕ → ℕ
    place zero i = suc i
    place (suc o) i = i

    before : (o i y : ℕ) → IsAt (l ∷ ls) o i y → IsAt ((x ∷ l) ∷ ls) o (place o i) y
    before zero i y at = at
    before (suc o) i y at = at

    back : (o i p j : ℕ) → o ≡ p → place o i ≡ place p j → i ≡ j
    back zero i zero j same places = omega (arith, places)
    back zero i (suc p) j same places = absurd (omega (arith, same))
    back (suc o) i zero j same places = absurd (omega (arith, same))
    back (suc o) i (suc p) j same places = places

    not_first : (o i : ℕ) → o ≡ 0 → place o i ≡ 0 → ⊥
    not_first zero i same places = omega (arith, places)
    not_first (suc o) i same places = omega (arith, same)

    apart : (o i y : ℕ) → IsAt (l ∷ ls) o i y → y ≢ x
    apart o i y at same =
        let here = owns.once o (place o i) 0 0 y (before o i y at) (ap Some (sym same)) in
        not_first o i here.0 here.1

    after : (o i y : ℕ) → y ≢ x → IsAt ((x ∷ l) ∷ ls) o i y → (j : ℕ) × IsAt (l ∷ ls) o j y
    after zero zero y differ at = let same : y ≡ x = cc in absurd (differ same)
    after zero (suc i) y differ at = (i, at)
    after (suc o) i y differ at = (i, at)

-- without a first list that has no items
owns-tail : (ls : List (List ℕ)) (bits : List Bool) → Owns ([] ∷ ls) bits → Owns ls bits
owns-tail ls bits owns = record {
  once = λ o i p j x one two. let same = owns.once (suc o) i (suc p) j x one two in let apart : o ≡ p = omega (arith, same.0) in (apart, same.1);
  marked = λ o i x at. owns.marked (suc o) i x at;
  listed = λ x marked. let at = owns.listed x marked in below at.0 at.1.0 x at.1.1;
}
  where
    below : (o i x : ℕ) → IsAt ([] ∷ ls) o i x → (p : ℕ) × ((j : ℕ) × IsAt ls p j x)
    below zero i x at = absurd (cc)
    below (suc o) i x at = (o, (i, at))

nothing-marked : (bits : List Bool) → Owns [] bits → (x : ℕ) → bit bits x ≡ false
nothing-marked bits owns x = elim (cases_Bool (bit bits x)) [
  | inl marked ↦ let at = owns.listed x marked in absurd (let no : slice_get [] at.1.0 ≡ Some x = at.1.1 in cc)
  | inr clear ↦ clear
]

with-first : (l : List ℕ) (ls : List (List ℕ)) → ((bits : List Bool) → Owns ls bits → marked_count bits ≡ sum_by length ls)
    → (bits : List Bool) → Owns (l ∷ ls) bits → marked_count bits ≡ sum_by length (l ∷ ls)
with-first [] ls rest bits owns = omega (arith, rest bits (owns-tail ls bits owns), sum_by-cons (length {A = ℕ}) [] ls)
with-first (x ∷ l) ls rest bits owns =
    omega (
      arith,
      one-less bits x (owns.marked 0 0 x refl),
      with-first l ls rest (set bits x false) (owns-behead x l ls bits owns),
      sum_by-cons (length {A = ℕ}) (x ∷ l) ls,
      sum_by-cons (length {A = ℕ}) l ls,
    )

-- there are as many marked items as listed ones
pub used_are : (lists : List (List ℕ)) (bits : List Bool) → Owns lists bits → count_by (λ b. b) bits ≡ sum_by length lists
used_are [] bits owns = none-marked bits (nothing-marked bits owns)
used_are (l ∷ ls) bits owns = with-first l ls (used_are ls) bits owns

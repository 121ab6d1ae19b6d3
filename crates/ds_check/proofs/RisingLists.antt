-- Rising lists of the same numbers are one list.
use Rattle.std.proofs.Common.{◌≡◌, ℕ, zero, suc, ◌<◌, ◌≤◌, List, [], ◌∷◌, refl, sym, ap, ◌∙◌, subst, inl, inr, arith}
use Rattle.std.specs.Prelude.{Contains, AllPairs}
use Rattle.std.specs.List.Sorted.{IsStrictlyIncreasing}
use Rattle.std.proofs.lemmas.Bool.{cases_eq}
use Rattle.std.proofs.lemmas.List.Kept.{AllPairs-from_increasing}

abbrev Rising : List ℕ → Type 0
Rising xs = AllPairs (λ x y. x < y) xs

rising-rest : (x : ℕ) (xs : List ℕ) → Rising (x ∷ xs) → Rising xs
rising-rest x xs rising i j d less within = rising (suc i) (suc j) d (omega (arith, less)) (omega (arith, within))

above-first : (x y : ℕ) (xs : List ℕ) → Rising (x ∷ xs) → Contains xs y → x < y
above-first x y xs rising has = subst (λ k. x < k) has.2 (rising 0 (suc has.0) y (omega arith) (omega (arith, has.1)))

in-rest : (x y : ℕ) (xs : List ℕ) → Contains (x ∷ xs) y → (x ≡ y → ⊥) → Contains xs y
in-rest x y xs (zero, within, at) other = absurd (other at)
in-rest x y xs (suc k, within, at) other = (k, omega (arith, within), at)

in-more : (x y : ℕ) (xs : List ℕ) → Contains xs y → Contains (x ∷ xs) y
in-more x y xs has = (suc has.0, omega (arith, has.1), has.2)

pub in-none : (y : ℕ) → Contains [] y → ⊥
in-none y has = omega (arith, has.1)

first-in : (x : ℕ) (xs : List ℕ) → Contains (x ∷ xs) x
first-in x xs = (0, omega arith, refl)

-- the first is the least
least-first : (x y : ℕ) (xs : List ℕ) → Rising (x ∷ xs) → Contains (x ∷ xs) y → x ≤ y
least-first x y xs rising has = elim (cases_eq x y) [
  | inl same ↦ omega (arith, same)
  | inr other ↦ omega (arith, above-first x y xs rising (in-rest x y xs has other))
]

-- what is in both lists is behind the first of both
rest-to : (x y : ℕ) (xs ys : List ℕ) → Rising (x ∷ xs) → x ≡ y → ((z : ℕ) → Contains (x ∷ xs) z → Contains (y ∷ ys) z) → (z : ℕ) → Contains xs z → Contains ys z
rest-to x y xs ys rising same to z has =
    let above = above-first x z xs rising has in
    in-rest y z ys (to z (in-more x z xs has)) (λ at. omega (arith, above, same, at))

rising-same : (xs ys : List ℕ) → Rising xs → Rising ys → ((z : ℕ) → Contains xs z → Contains ys z) → ((z : ℕ) → Contains ys z → Contains xs z) → xs ≡ ys
rising-same [] [] r s to from = refl
rising-same [] (y ∷ ys) r s to from = absurd (in-none y (from y (first-in y ys)))
rising-same (x ∷ xs) [] r s to from = absurd (in-none x (to x (first-in x xs)))
rising-same (x ∷ xs) (y ∷ ys) r s to from =
    let one = least-first x y xs r (from y (first-in y ys)) in
    let two = least-first y x ys s (to x (first-in x xs)) in
    let same : x ≡ y = omega (arith, one, two) in
    let rest = rising-same xs ys (rising-rest x xs r) (rising-rest y ys s) (rest-to x y xs ys r same to) (rest-to y x ys xs s (sym same) from) in
    ap (λ z. z ∷ xs) same ∙ ap (λ zs. y ∷ zs) rest

-- two rising lists of just the same numbers
pub increasing-same : (xs ys : List ℕ) → IsStrictlyIncreasing xs → IsStrictlyIncreasing ys → ((z : ℕ) → Contains xs z → Contains ys z)
    → ((z : ℕ) → Contains ys z → Contains xs z) → xs ≡ ys
increasing-same xs ys r s = rising-same xs ys (AllPairs-from_increasing xs r) (AllPairs-from_increasing ys s)

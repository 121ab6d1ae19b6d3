-- Lists with one element more at their end.
use Rattle.std.proofs.Common.{◌≡◌, ℕ, zero, suc, ◌+◌, ◌≤◌, ◌<◌, ◌⊎◌, inl, inr, Bool, List, [], ◌∷◌, ◌++◌, length, take, refl, ap, sym, ◌∙◌, arith, length-append, Some, cond}
use Rattle.std.specs.Prelude.{slice_get, count_by, fold}
use Rattle.std.specs.List.{sum_by}
use Rattle.std.proofs.lemmas.List.{take-append-le}
use Rattle.std.proofs.lemmas.List.Sums.{fold-append, sum_by-append}
use Rattle.std.proofs.Math.Seq.{take-length}
use Rattle.std.proofs.lemmas.Option.{slice_get_within}

pub length-push : {A : Type 0} (xs : List A) (x : A) → length (xs ++ x ∷ []) ≡ length xs + 1
length-push xs x = length-append xs (x ∷ [])

pub get-push_old : {A : Type 0} (xs : List A) (x y : A) (i : ℕ) → slice_get xs i ≡ Some y → slice_get (xs ++ x ∷ []) i ≡ Some y
get-push_old [] x y i h = absurd cc
get-push_old (z ∷ zs) x y zero h = h
get-push_old (z ∷ zs) x y (suc i) h = get-push_old zs x y i h

pub get-push_last : {A : Type 0} (xs : List A) (x : A) → slice_get (xs ++ x ∷ []) (length xs) ≡ Some x
get-push_last [] x = refl
get-push_last (z ∷ zs) x = get-push_last zs x

-- what stands in the longer list stood there before, or is the last element
pub get-push_cases : {A : Type 0} (xs : List A) (x y : A) (i : ℕ) → slice_get (xs ++ x ∷ []) i ≡ Some y
    → (slice_get xs i ≡ Some y) ⊎ ((i ≡ length xs) × (x ≡ y))
get-push_cases [] x y zero h = inr (refl, cc)
get-push_cases [] x y (suc i) h = absurd cc
get-push_cases (z ∷ zs) x y zero h = inl h
get-push_cases (z ∷ zs) x y (suc i) h =
    elim (get-push_cases zs x y i h) [ inl old ↦ inl old | inr last ↦ inr (ap suc last.0, last.1) ]

pub take-push : {A : Type 0} (xs : List A) (x : A) (n : ℕ) → n ≤ length xs → take n (xs ++ x ∷ []) ≡ take n xs
take-push xs x n le = take-append-le n xs (x ∷ []) le

pub take-push_whole : {A : Type 0} (xs : List A) (x : A) (n : ℕ) → n ≡ length xs + 1 → take n (xs ++ x ∷ []) ≡ xs ++ x ∷ []
take-push_whole xs x n e = ap (λ (k : ℕ). take k (xs ++ x ∷ [])) (e ∙ sym (length-push xs x)) ∙ take-length (xs ++ x ∷ [])

pub take-push_last : {A : Type 0} (xs : List A) (x : A) (n : ℕ) → n ≡ length xs → take n (xs ++ x ∷ []) ≡ xs
take-push_last xs x n e = take-push xs x n (omega arith) ∙ (ap (λ (k : ℕ). take k xs) e ∙ take-length xs)

pub sum_by-push : {A : Type 0} (f : A → ℕ) (xs : List A) (x : A) → sum_by f (xs ++ x ∷ []) ≡ sum_by f xs + f x
sum_by-push f xs x = omega (arith, sum_by-append f xs (x ∷ []))

pub count_by-push : {A : Type 0} (p : A → Bool) (xs : List A) (x : A) → count_by p (xs ++ x ∷ []) ≡ count_by p xs + cond (p x) 1 0
count_by-push p xs x = sum_by-push (λ y. cond (p y) 1 0) xs x

pub fold-push : {A B : Type 0} (f : B → A → B) (b : B) (xs : List A) (x : A) → fold f b (xs ++ x ∷ []) ≡ f (fold f b xs) x
fold-push f b xs x = fold-append f b xs (x ∷ [])

-- an element of a list is below its length
pub get-within : {A : Type 0} (xs : List A) (i : ℕ) (x : A) → slice_get xs i ≡ Some x → i < length xs
get-within xs i x h = slice_get_within xs i x h

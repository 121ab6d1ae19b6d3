-- Lists: what one write, and one element more, leave.
use Rattle.std.proofs.Common.{◌≡◌, ℕ, suc, zero, ◌<◌, ◌⊎◌, inl, inr, Bool, true, false, cond, List, [], ◌∷◌, ◌++◌, length, take, refl, ap, arith, Some, None}
use Rattle.std.specs.Prelude.{slice_get, slice_set}
use Rattle.std.specs.List.{Contains}
use Rattle.std.proofs.lemmas.Option.{slice_get_within}
use Rattle.ds_image_parts.proofs.Journaling.LaidOver.{slice_get-set_same}

pub slice_get-set_found : {X : Type 0} (xs : List X) (i : ℕ) (x y : X) → slice_get xs i ≡ Some x → slice_get (slice_set xs i y) i ≡ Some y
slice_get-set_found xs i x y e = slice_get-set_same xs i y (slice_get_within xs i x e)

pub slice_get-set_none : {X : Type 0} (xs : List X) (i : ℕ) (y : X) → slice_get xs i ≡ None → slice_get (slice_set xs i y) i ≡ None
slice_get-set_none [] i y e = refl
slice_get-set_none (z ∷ xs) zero y e = cc
slice_get-set_none (z ∷ xs) (suc i) y e = slice_get-set_none xs i y e

pub Contains-cases : {X : Type 0} (xs : List X) (y x : X) → Contains (y ∷ xs) x → (y ≡ x) ⊎ Contains xs x
Contains-cases xs y x (zero, within, is) = inl is
Contains-cases xs y x (suc k, within, is) = inr (k, omega (arith, within), is)

pub Contains-none : {X : Type 0} (x : X) → Contains [] x → ⊥
Contains-none x (k, within, is) = omega (arith, within)

pub take-next : {X : Type 0} (xs : List X) (n : ℕ) → n < length xs
    → (x : X) × (slice_get xs n ≡ Some x) × (take (suc n) xs ≡ take n xs ++ x ∷ [])
take-next [] n h = absurd (omega arith)
take-next (x ∷ xs) zero h = (x, refl, refl)
take-next (x ∷ xs) (suc n) h = let r = take-next xs n (omega arith) in (r.0, r.1, ap (λ l. x ∷ l) r.2)

pub cond-cases : {X : Type 0} (b : Bool) (x y : X) → ((b ≡ true) × (cond b x y ≡ x)) ⊎ ((b ≡ false) × (cond b x y ≡ y))
cond-cases true x y = inl (refl, refl)
cond-cases false x y = inr (refl, refl)

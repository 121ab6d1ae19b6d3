-- Items of lists and bits of marks by their places.
use Rattle.std.proofs.Common.{◌≡◌, ℕ, zero, suc, ◌+◌, ◌<◌, ◌⊎◌, Bool, true, false, List, [], ◌∷◌, ◌++◌, length, inl, inr, refl, sym, ap, ◌∙◌, subst, arith}
use Rattle.std.specs.Prelude.{Contains, Some, slice_get}
use Rattle.std.proofs.lemmas.Bool.{cases_lt, false≢true}
use Rattle.std.proofs.lemmas.List.{get_or_past}
use Rattle.std.proofs.lemmas.Option.{slice_get_within, slice_get-get_or, get_or_from_slice_get}
use Rattle.ds_image_tables.specs.Owns.{bit}

-- an item of two lists put together is one of the first or one of the second
pub at-append : {X : Type 0} (xs ys : List X) (i : ℕ) (x : X) → slice_get (xs ++ ys) i ≡ Some x
    → (slice_get xs i ≡ Some x) ⊎ ((j : ℕ) × (i ≡ length xs + j) × (slice_get ys j ≡ Some x))
at-append [] ys i x at = inr (i, omega arith, at)
at-append (y ∷ xs) ys zero x at = inl at
at-append (y ∷ xs) ys (suc i) x at =
    elim (at-append xs ys i x at) [
      | inl front ↦ inl front
      | inr back ↦ inr (back.0, omega (arith, back.1), back.2)
    ]

pub at-append_left : {X : Type 0} (xs ys : List X) (i : ℕ) (x : X) → slice_get xs i ≡ Some x → slice_get (xs ++ ys) i ≡ Some x
at-append_left [] ys i x at = absurd (cc)
at-append_left (y ∷ xs) ys zero x at = at
at-append_left (y ∷ xs) ys (suc i) x at = at-append_left xs ys i x at

pub at-append_right : {X : Type 0} (xs ys : List X) (j : ℕ) (x : X) → slice_get ys j ≡ Some x → slice_get (xs ++ ys) (length xs + j) ≡ Some x
at-append_right [] ys j x at = let same : 0 + j ≡ j = omega arith in subst (λ k. slice_get ys k ≡ Some x) (sym same) at
at-append_right (y ∷ xs) ys j x at =
    let next : suc (length xs) + j ≡ suc (length xs + j) = omega arith in
    subst (λ k. slice_get (y ∷ (xs ++ ys)) k ≡ Some x) (sym next) (at-append_right xs ys j x at)

pub at-single : {X : Type 0} (y : X) (i : ℕ) (x : X) → slice_get (y ∷ []) i ≡ Some x → (i ≡ 0) × (x ≡ y)
at-single y zero x at = let same : x ≡ y = cc in (refl, same)
at-single y (suc i) x at = absurd (cc)

pub Contains-from_at : {X : Type 0} (xs : List X) (i : ℕ) (x : X) → slice_get xs i ≡ Some x → Contains xs x
Contains-from_at xs i x at = (i, slice_get_within xs i x at, get_or_from_slice_get xs i x x at)

pub at-from_Contains : {X : Type 0} (xs : List X) (x : X) → Contains xs x → (i : ℕ) × (slice_get xs i ≡ Some x)
at-from_Contains xs x held = (held.0, slice_get-get_or xs held.0 x held.1 ∙ ap Some held.2)

-- only an item that is there is marked
pub marked-within : (bits : List Bool) (x : ℕ) → bit bits x ≡ true → x < length bits
marked-within bits x marked =
    elim (cases_lt x (length bits)) [
      | inl within ↦ within
      | inr past ↦ absurd (false≢true (sym (get_or_past bits x false past) ∙ marked))
    ]

-- an item that is there has its bit at its place
pub bit-at : (bits : List Bool) (x : ℕ) → x < length bits → slice_get bits x ≡ Some (bit bits x)
bit-at bits x within = slice_get-get_or bits x false within

pub bit-from_at : (bits : List Bool) (x : ℕ) (b : Bool) → slice_get bits x ≡ Some b → bit bits x ≡ b
bit-from_at bits x b at = get_or_from_slice_get bits x b false at

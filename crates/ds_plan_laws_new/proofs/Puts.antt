-- Lists with one item put in.
use Rattle.std.proofs.Common.{◌≡◌, ℕ, zero, suc, ◌+◌, ◌⊎◌, inl, inr, List, [], ◌∷◌, ◌++◌, length, map, slice_get, slice_set, Option, Some, None, refl, sym, ap, subst, ◌∙◌, append_assoc, length-append, arith}
use Rattle.std.specs.List.{filter_map}
use Rattle.std.specs.List.Sorted.{IsPermutation}
use Rattle.std.proofs.lemmas.List.{append-nil, map-append}
use Rattle.std.proofs.lemmas.List.Sorted.{IsPermutation-middle}
use Rattle.ds_image_tables.proofs.Spelling.Places.{at-append, at-append_left, at-append_right}
use Rattle.ds_plan_laws_new.specs.Puts.{IsPut}

pub put-last : {X : Type 0} (x : X) (xs : List X) → IsPut x xs (xs ++ x ∷ [])
put-last x xs = record { front = xs; back = []; without = sym (append-nil xs); put_in = refl }

-- behind and in front of other items
pub put-right : {X : Type 0} (x : X) (zs xs ys : List X) → IsPut x xs ys → IsPut x (zs ++ xs) (zs ++ ys)
put-right x zs xs ys put = record {
  front = zs ++ put.front;
  back = put.back;
  without = ap (λ l. zs ++ l) put.without ∙ sym (append_assoc zs put.front put.back);
  put_in = ap (λ l. zs ++ l) put.put_in ∙ sym (append_assoc zs put.front (x ∷ put.back));
}

pub put-left : {X : Type 0} (x : X) (zs xs ys : List X) → IsPut x xs ys → IsPut x (xs ++ zs) (ys ++ zs)
put-left x zs xs ys put = record {
  front = put.front;
  back = put.back ++ zs;
  without = ap (λ l. l ++ zs) put.without ∙ append_assoc put.front put.back zs;
  put_in = ap (λ l. l ++ zs) put.put_in ∙ append_assoc put.front (x ∷ put.back) zs;
}

pub put-mapped : {X Y : Type 0} (f : X → Y) (x : X) (xs ys : List X) → IsPut x xs ys → IsPut (f x) (map f xs) (map f ys)
put-mapped f x xs ys put = record {
  front = map f put.front;
  back = map f put.back;
  without = ap (map f) put.without ∙ map-append f put.front put.back;
  put_in = ap (map f) put.put_in ∙ map-append f put.front (x ∷ put.back);
}

pub put-length : {X : Type 0} (x : X) (xs ys : List X) → IsPut x xs ys → length ys ≡ length xs + 1
put-length x xs ys put =
    omega (arith, ap length put.without, ap length put.put_in, length-append put.front put.back, length-append put.front (x ∷ put.back))

pub put-permutation : {X : Type 0} (x : X) (xs ys : List X) → IsPut x xs ys → IsPermutation ys (x ∷ xs)
put-permutation x xs ys put =
    subst (λ l. IsPermutation l (x ∷ xs)) (sym put.put_in)
    (subst (λ l. IsPermutation (put.front ++ x ∷ put.back) (x ∷ l)) (sym put.without) (IsPermutation-middle put.front x put.back))

-- Items by their places

in-middle : {X : Type 0} (x : X) (front back : List X) (i : ℕ) (y : X) → slice_get (front ++ x ∷ back) i ≡ Some y
    → (y ≡ x) ⊎ ((j : ℕ) × (slice_get (front ++ back) j ≡ Some y))
in-middle x front back i y at = elim (at-append front (x ∷ back) i y at) [
  | inl before ↦ inr (i, at-append_left front back i y before)
  | inr past ↦ after past.0 past.2
]
  where
    after : (j : ℕ) → slice_get (x ∷ back) j ≡ Some y → (y ≡ x) ⊎ ((k : ℕ) × (slice_get (front ++ back) k ≡ Some y))
    after zero here = inl (let same : y ≡ x = cc in same)
    after (suc j) later = inr (length front + j, at-append_right front back j y later)

around-middle : {X : Type 0} (x : X) (front back : List X) (j : ℕ) (y : X) → slice_get (front ++ back) j ≡ Some y
    → (i : ℕ) × (slice_get (front ++ x ∷ back) i ≡ Some y)
around-middle x front back j y at = elim (at-append front back j y at) [
  | inl before ↦ (j, at-append_left front (x ∷ back) j y before)
  | inr past ↦ (length front + suc past.0, at-append_right front (x ∷ back) (suc past.0) y past.2)
]

-- an item of the longer list is the one put in or one of the shorter list
pub put-at : {X : Type 0} (x : X) (xs ys : List X) (i : ℕ) (y : X) → IsPut x xs ys → slice_get ys i ≡ Some y
    → (y ≡ x) ⊎ ((j : ℕ) × (slice_get xs j ≡ Some y))
put-at x xs ys i y put at = elim (in-middle x put.front put.back i y (subst (λ l. slice_get l i ≡ Some y) put.put_in at)) [
  | inl here ↦ inl here
  | inr other ↦ inr (other.0, subst (λ l. slice_get l other.0 ≡ Some y) (sym put.without) other.1)
]

-- and each item of the shorter list is in the longer one
pub put-kept : {X : Type 0} (x : X) (xs ys : List X) (j : ℕ) (y : X) → IsPut x xs ys → slice_get xs j ≡ Some y
    → (i : ℕ) × (slice_get ys i ≡ Some y)
put-kept x xs ys j y put at =
    let there = around-middle x put.front put.back j y (subst (λ l. slice_get l j ≡ Some y) put.without at) in
    (there.0, subst (λ l. slice_get l there.0 ≡ Some y) (sym put.put_in) there.1)

-- Rooms, of which some are free

-- the items in the used rooms
abbrev pub in_use : {X : Type 0} → List (Option X) → List X
in_use rooms = filter_map (λ room. room) rooms

-- a free room was filled
pub put-room : {X : Type 0} (x : X) (rooms : List (Option X)) (j : ℕ) → slice_get rooms j ≡ Some None
    → IsPut x (in_use rooms) (in_use (slice_set rooms j (Some x)))
put-room x [] j free = absurd (cc)
put-room x (room ∷ rooms) zero free =
    let none : room ≡ None = cc in
    record { front = []; back = in_use rooms; without = ap (λ r. in_use (r ∷ rooms)) none; put_in = refl }
put-room x (None ∷ rooms) (suc j) free = put-room x rooms j free
put-room x (Some y ∷ rooms) (suc j) free = put-right x (y ∷ []) (in_use rooms) (in_use (slice_set rooms j (Some x))) (put-room x rooms j free)

-- a used room was emptied
pub put-room_back : {X : Type 0} (x : X) (rooms : List (Option X)) (j : ℕ) → slice_get rooms j ≡ Some (Some x)
    → IsPut x (in_use (slice_set rooms j None)) (in_use rooms)
put-room_back x [] j used = absurd (cc)
put-room_back x (room ∷ rooms) zero used =
    let some : room ≡ Some x = cc in
    record { front = []; back = in_use rooms; without = refl; put_in = ap (λ r. in_use (r ∷ rooms)) some }
put-room_back x (None ∷ rooms) (suc j) used = put-room_back x rooms j used
put-room_back x (Some y ∷ rooms) (suc j) used = put-right x (y ∷ []) (in_use (slice_set rooms j None)) (in_use rooms) (put-room_back x rooms j used)

-- Parts that are put in the place of others, each by its number.
use Rattle.std.proofs.Common.{◌≡◌, ◌≢◌, ℕ, zero, suc, ◌<◌, ◌⊎◌, inl, inr, List, [], ◌∷◌, length, slice_get, slice_set, Option, Some, None, refl, sym, ap, ◌∙◌, length-set, get_or-set_same, get_or-set_other, arith}
use Rattle.std.proofs.lemmas.Bool.{cases_eq}
use Rattle.ds_image_parts.specs.Parts.{part_at, AllSpelled}
use Rattle.ds_image.proofs.Bits.{all-put}
use Rattle.ds_plan_laws_size.specs.Written.{AreOnce, put_all}

pub put-length : {V : Type 0} (xs : List (Option V)) (writes : List (ℕ × V)) → length (put_all xs writes) ≡ length xs
put-length xs [] = refl
put-length xs (w ∷ writes) = put-length (slice_set xs w.0 (Some w.1)) writes ∙ length-set xs w.0 (Some w.1)

pub put-spelled : {V : Type 0} (xs : List (Option V)) (writes : List (ℕ × V)) → AllSpelled xs → AllSpelled (put_all xs writes)
put-spelled xs [] all = all
put-spelled xs (w ∷ writes) all = put-spelled (slice_set xs w.0 (Some w.1)) writes (all-put xs w.0 w.1 all)

-- whether a number is among them
pub put-cases : {V : Type 0} (writes : List (ℕ × V)) (n : ℕ)
    → ((i : ℕ) × ((w : ℕ × V) × (slice_get writes i ≡ Some w) × (w.0 ≡ n))) ⊎ ((i : ℕ) (w : ℕ × V) → slice_get writes i ≡ Some w → w.0 ≢ n)
put-cases [] n = inr (λ i w at. absurd (cc))
put-cases {V} (v ∷ writes) n = elim (cases_eq v.0 n) [
  | inl here ↦ inl (0, (v, refl, here))
  | inr apart ↦ elim (put-cases writes n) [
    | inl later ↦ inl (suc later.0, (later.1.0, later.1.1, later.1.2))
    | inr none ↦ inr (nowhere apart none)
  ]
]
  where
    nowhere : v.0 ≢ n → ((i : ℕ) (w : ℕ × V) → slice_get writes i ≡ Some w → w.0 ≢ n) → (i : ℕ) (w : ℕ × V) → slice_get (v ∷ writes) i ≡ Some w → w.0 ≢ n
    nowhere apart none zero w at same =
        let is : v ≡ w = cc in
        apart (ap (λ (x : ℕ × V). x.0) is ∙ same)
    nowhere apart none (suc i) w at same = none i w at same

-- a part that none of them replaces stays
pub put-other : {V : Type 0} (xs : List (Option V)) (writes : List (ℕ × V)) (n : ℕ) → ((i : ℕ) (w : ℕ × V) → slice_get writes i ≡ Some w → w.0 ≢ n)
    → part_at (put_all xs writes) n ≡ part_at xs n
put-other xs [] n none = refl
put-other xs (w ∷ writes) n none =
    put-other (slice_set xs w.0 (Some w.1)) writes n (λ i v at. none (suc i) v at)
    ∙ get_or-set_other xs w.0 n (Some w.1) None (λ same. none 0 w refl (sym same))

-- and each of them is in its place
pub put-there : {V : Type 0} (xs : List (Option V)) (writes : List (ℕ × V)) (i : ℕ) (w : ℕ × V) → AreOnce writes → slice_get writes i ≡ Some w → w.0 < length xs
    → part_at (put_all xs writes) w.0 ≡ Some w.1
put-there xs [] i w once at within = absurd (cc)
put-there {V} xs (v ∷ writes) zero w once at within =
    let is : v ≡ w = cc in
    put-other (slice_set xs v.0 (Some v.1)) writes w.0
    (λ j x at' same. absurd (let places : 0 ≡ suc j = once 0 (suc j) w x at at' (sym same) in omega (arith, places)))
    ∙ ap (λ (x : ℕ × V). part_at (slice_set xs x.0 (Some x.1)) w.0) is
    ∙ get_or-set_same xs w.0 (Some w.1) None within
put-there xs (v ∷ writes) (suc i) w once at within =
    put-there (slice_set xs v.0 (Some v.1)) writes i w (λ k l x y one two same. omega (arith, once (suc k) (suc l) x y one two same)) at
    (omega (arith, within, length-set xs v.0 (Some v.1)))

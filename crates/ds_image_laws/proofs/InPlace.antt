-- Pairs that stand at their sectors: one more that is written, and others that are written.
use Rattle.std.proofs.Common.{◌≡◌, ℕ, zero, suc, ◌+◌, ◌<◌, false, List, [], ◌∷◌, length, take, slice_get, slice_set, Some, sym, ap, subst, ◌∙◌, inl, inr, arith}
use Rattle.std.specs.Prelude.{slice_index}
use Rattle.std.specs.List.Sorted.{IsStrictlyIncreasing}
use Rattle.std.proofs.lemmas.Bool.{cases_eq, cases_lt, false≢true}
use Rattle.std.proofs.lemmas.List.{get_or-map, length-map}
use Rattle.std.proofs.lemmas.Option.{same_Some, slice_get_within, get_or_from_slice_get}
use Rattle.ds_base.specs.declared.sectors.Sector.{Sector}
use Rattle.ds_image.specs.Asking.{targets_of}
use Rattle.ds_image_parts.specs.Pending.{Pair}
use Rattle.ds_image.proofs.Spelling.SoundParts.{all-at, all-from_at}
use Rattle.ds_image_parts.proofs.Journaling.LaidOver.{slice_get-set_same, slice_get-set_other}
use Rattle.ds_image_laws.specs.Kept.{is_target}
use Rattle.ds_image_laws.specs.Shown.{AreInPlace}
use Rattle.ds_image_laws.proofs.PickedPairs.{target-later, target-first}

-- each pair for the sector has this content
abbrev pub HasOnly : ℕ → Sector → List Pair → Type 0
HasOnly at s pairs = (i : ℕ) (pair : Pair) → slice_get pairs i ≡ Some pair → pair.0 ≡ at → pair.1 ≡ s

-- pairs stay at their sectors where a sector that is written is none of theirs, or gets the content of its pair
pub in_place-written : (sectors : List Sector) (pairs : List Pair) (at : ℕ) (s : Sector) → at < length sectors → HasOnly at s pairs → AreInPlace sectors pairs
    → AreInPlace (slice_set sectors at s) pairs
in_place-written sectors pairs at s within only stand =
    all-from_at (λ (pair : Pair). slice_get (slice_set sectors at s) pair.0 ≡ Some pair.1) pairs
    (λ i pair got. elim (cases_eq pair.0 at) [
      | inl here ↦
          subst (λ n. slice_get (slice_set sectors at s) n ≡ Some pair.1) (sym here)
          (slice_get-set_same sectors at s within ∙ ap Some (sym (only i pair got here)))
      | inr apart ↦
          slice_get-set_other sectors at pair.0 s (λ e. apart (sym e))
          ∙ all-at (λ (p : Pair). slice_get sectors p.0 ≡ Some p.1) pairs stand i pair got
    ])

pub only-none : (pairs : List Pair) (at : ℕ) (s : Sector) → is_target pairs at ≡ false → HasOnly at s pairs
only-none [] at s none i pair got here = absurd (cc)
only-none (p ∷ pairs) at s none zero pair got here =
    let same : p ≡ pair = same_Some p pair got in
    absurd (false≢true (sym none ∙ target-first p pairs at (ap (λ (q : Pair). q.0) same ∙ here)))
only-none (p ∷ pairs) at s none (suc i) pair got here = elim (cases_eq p.0 at) [
  | inl first ↦ absurd (false≢true (sym none ∙ target-first p pairs at first))
  | inr apart ↦ only-none pairs at s (sym (target-later p pairs at apart) ∙ none) i pair got here
]

-- pairs whose targets rise have one content for each sector
rising-below : (xs : List ℕ) → IsStrictlyIncreasing xs → (i j : ℕ) → i < j → j < length xs → slice_index xs i < slice_index xs j
rising-below xs rising i zero below within = absurd (omega arith)
rising-below xs rising i (suc j) below within =
    let next : j + 1 ≡ suc j = omega arith in
    let step : slice_index xs j < slice_index xs (suc j) = subst (λ k. slice_index xs j < slice_index xs k) next (rising j (omega arith)) in
    elim (cases_eq i j) [
      | inl same ↦ subst (λ k. slice_index xs k < slice_index xs (suc j)) (sym same) step
      | inr apart ↦ omega (arith, step, rising-below xs rising i j (omega (arith, apart)) (omega arith))
    ]

pub only-rising : (pairs : List Pair) (i : ℕ) (pair : Pair) → IsStrictlyIncreasing (targets_of pairs) → slice_get pairs i ≡ Some pair → HasOnly pair.0 pair.1 pairs
only-rising pairs i pair rising got j other got' same =
    let first : i < length pairs = slice_get_within pairs i pair got in
    let second : j < length pairs = slice_get_within pairs j other got' in
    let count : length (targets_of pairs) ≡ length pairs = length-map pairs (λ (p : Pair). p.0) in
    let one : slice_index (targets_of pairs) i ≡ pair.0 =
    get_or-map (λ (p : Pair). p.0) pairs i pair 0 first ∙ ap (λ (p : Pair). p.0) (get_or_from_slice_get pairs i pair pair got) in
    let two : slice_index (targets_of pairs) j ≡ other.0 =
    get_or-map (λ (p : Pair). p.0) pairs j other 0 second ∙ ap (λ (p : Pair). p.0) (get_or_from_slice_get pairs j other other got') in
    let place : i ≡ j = elim (cases_eq i j) [
      | inl here ↦ here
      | inr apart ↦ elim (cases_lt i j) [
        | inl below ↦ absurd (omega (arith, rising-below (targets_of pairs) rising i j below (omega (arith, second, count)), one, two, same))
        | inr above ↦ absurd (omega (arith, rising-below (targets_of pairs) rising j i (omega (arith, above, apart)) (omega (arith, first, count)), one, two, same))
      ]
    ] in
    sym (ap (λ (p : Pair). p.1) (same_Some pair other (sym got ∙ ap (slice_get pairs) place ∙ got')))

-- one more pair stands at its sector
pub in_place-more : (sectors : List Sector) (pairs : List Pair) (n : ℕ) (pair : Pair) → IsStrictlyIncreasing (targets_of pairs) → slice_get pairs n ≡ Some pair
    → pair.0 < length sectors → AreInPlace sectors (take n pairs) → AreInPlace (slice_set sectors pair.0 pair.1) (take (n + 1) pairs)
in_place-more sectors pairs n pair rising got within stand =
    all-from_at (λ (p : Pair). slice_get (slice_set sectors pair.0 pair.1) p.0 ≡ Some p.1) (take (n + 1) pairs)
    (λ i p there.
    let from : slice_get pairs i ≡ Some p = slice_get-from_take (n + 1) pairs i p there in
    elim (cases_eq p.0 pair.0) [
      | inl here ↦
          subst (λ k. slice_get (slice_set sectors pair.0 pair.1) k ≡ Some p.1) (sym here)
          (slice_get-set_same sectors pair.0 pair.1 within ∙ ap Some (sym (only-rising pairs n pair rising got i p from here)))
      | inr apart ↦
          let small : i < n + 1 = below-take (n + 1) pairs i p there in
          let before : i < n = elim (cases_eq i n) [
            | inl same ↦ absurd (apart (ap (λ (q : Pair). q.0) (same_Some p pair (sym from ∙ ap (slice_get pairs) same ∙ got))))
            | inr other ↦ omega (arith, small, other)
          ] in
          slice_get-set_other sectors pair.0 p.0 pair.1 (λ e. apart (sym e))
          ∙ all-at (λ (q : Pair). slice_get sectors q.0 ≡ Some q.1) (take n pairs) stand i p (slice_get-in_take n pairs i p before from)
    ])
  where
    slice_get-from_take : (m : ℕ) (xs : List Pair) (i : ℕ) (x : Pair) → slice_get (take m xs) i ≡ Some x → slice_get xs i ≡ Some x
    slice_get-from_take zero xs i x at = absurd (cc)
    slice_get-from_take (suc m) [] i x at = at
    slice_get-from_take (suc m) (y ∷ xs) zero x at = at
    slice_get-from_take (suc m) (y ∷ xs) (suc i) x at = slice_get-from_take m xs i x at

    below-take : (m : ℕ) (xs : List Pair) (i : ℕ) (x : Pair) → slice_get (take m xs) i ≡ Some x → i < m
    below-take zero xs i x at = absurd (cc)
    below-take (suc m) [] i x at = absurd (cc)
    below-take (suc m) (y ∷ xs) zero x at = omega arith
    below-take (suc m) (y ∷ xs) (suc i) x at = omega (arith, below-take m xs i x at)

    slice_get-in_take : (m : ℕ) (xs : List Pair) (i : ℕ) (x : Pair) → i < m → slice_get xs i ≡ Some x → slice_get (take m xs) i ≡ Some x
    slice_get-in_take zero xs i x below at = absurd (omega arith)
    slice_get-in_take (suc m) [] i x below at = at
    slice_get-in_take (suc m) (y ∷ xs) zero x below at = at
    slice_get-in_take (suc m) (y ∷ xs) (suc i) x below at = slice_get-in_take m xs i x (omega arith) at

-- An object lists other items in the place of its last ones, and the marks follow.
use Rattle.std.proofs.Common.{◌≡◌, ◌≢◌, ℕ, zero, suc, ◌+◌, ◌<◌, ◌≤◌, ◌⊎◌, cond, Bool, true, false, inl, inr, List, [], ◌∷◌, ◌++◌, length, set, slice_get, Some, refl, sym, ap, ◌∙◌, get_or-set_same, get_or-set_other, arith}
use Rattle.std.specs.Prelude.{Contains, not}
use Rattle.std.proofs.lemmas.Bool.{cases_eq, cases_Bool, false≢true}
use Rattle.std.proofs.lemmas.List.Sums.{sum_by-set}
use Rattle.std.proofs.lemmas.Option.{slice_get_within}
use Rattle.ds_image_tables.specs.Owned.{CanMark, AddsMarks, with_marks}
use Rattle.ds_image_tables.specs.Owns.{Owns, list_of, bit}
use Rattle.ds_image_tables.proofs.Ownership.Marking.{clears-many, adds-one, can-back}
use Rattle.ds_image_tables.proofs.Ownership.Owning.{owns-adds, owns-given_up}
use Rattle.ds_image_tables.proofs.Spelling.Places.{Contains-from_at, at-from_Contains, bit-at, bit-from_at, marked-within}
use Rattle.ds_image.proofs.Bits.{clear_count}
use Rattle.ds_plan_laws_size.specs.Remarks.{Remarks}
use Rattle.ds_image_tables.proofs.Ownership.Owning.{AddsItems}
use Rattle.ds_image_tables.proofs.Ownership.Marking.{ClearsMarks}

-- Whether an item is in a list

pub contains-cases : (xs : List ℕ) (x : ℕ) → Contains xs x ⊎ (¬ Contains xs x)
contains-cases [] x = inr (λ held. absurd (omega (arith, held.1)))
contains-cases (y ∷ ys) x = elim (cases_eq y x) [
  | inl same ↦ inl (Contains-from_at (y ∷ ys) 0 x (ap Some same))
  | inr apart ↦ elim (contains-cases ys x) [
    | inl later ↦ let at = at-from_Contains ys x later in inl (Contains-from_at (y ∷ ys) (suc at.0) x at.1)
    | inr none ↦ inr (λ held. let at = at-from_Contains (y ∷ ys) x held in nowhere apart none at.0 at.1)
  ]
]
  where
    nowhere : y ≢ x → (¬ Contains ys x) → (i : ℕ) → slice_get (y ∷ ys) i ≡ Some x → ⊥
    nowhere apart none zero at = apart (let same : y ≡ x = cc in same)
    nowhere apart none (suc i) at = none (Contains-from_at ys i x at)

-- Ownership

module _ (lists more : List (List ℕ)) (bits after : List Bool) (o : ℕ) (front given taken : List ℕ) (within : o < length lists)
    (before : list_of lists o ≡ front ++ given) (here : list_of more o ≡ front ++ taken) (elsewhere : (k : ℕ) → k ≢ o → list_of more k ≡ list_of lists k)
    (can : CanMark bits taken) (marks : Remarks bits given taken after) (owns : Owns lists bits) where
  abbrev mid : List Bool
  mid = with_marks bits given false

  given-within : (i x : ℕ) → slice_get given i ≡ Some x → x < length bits
  given-within i x at =
      let listed = ap (λ l. slice_get l (length front + i)) before ∙ at-back front given i x at in
      marked-within bits x (owns.marked o (length front + i) x listed)
    where
      at-back : (xs ys : List ℕ) (j y : ℕ) → slice_get ys j ≡ Some y → slice_get (xs ++ ys) (length xs + j) ≡ Some y
      at-back [] ys j y is = let same : 0 + j ≡ j = omega arith in ap (slice_get ys) same ∙ is
      at-back (x ∷ xs) ys j y is =
          let next : suc (length xs) + j ≡ suc (length xs + j) = omega arith in
          ap (slice_get (x ∷ (xs ++ ys))) next ∙ at-back xs ys j y is

  cleared : ClearsMarks bits given mid
  cleared = clears-many bits given given-within

  adds : AddsItems (set lists o front) o taken more
  adds = record {
    here = here ∙ ap (λ l. l ++ taken) (sym (get_or-set_same lists o front [] within));
    elsewhere = λ p apart. elsewhere p apart ∙ sym (get_or-set_other lists o p front [] apart);
  }

  unmarked : (x : ℕ) → Contains taken x → bit bits x ≡ true → ⊥
  unmarked x held marked =
      let at = at-from_Contains taken x held in
      false≢true (sym (bit-from_at bits x false (can.clear at.0 x at.1)) ∙ marked)

  can-mid : CanMark mid taken
  can-mid = record {
    clear = λ i x at.
        let inside : x < length mid = omega (arith, slice_get_within bits x false (can.clear i x at), cleared.count) in
        let clear : bit mid x ≡ false = elim (cases_Bool (bit mid x)) [
          | inl marked ↦ absurd (unmarked x (Contains-from_at taken i x at) ((cleared.marks x).0 marked).0)
          | inr clear ↦ clear
        ] in
        bit-at mid x inside ∙ ap Some clear;
    once = can.once;
  }

  adds-after : AddsMarks mid taken after
  adds-after = record {
    count = marks.count ∙ sym cleared.count;
    marks = λ x. (
      λ marked. elim (contains-cases taken x) [
        | inl held ↦ inr held
        | inr fresh ↦
            let stays : ¬ Contains given x = λ held. false≢true (sym (marks.gone x held) ∙ marked) in
            inl ((cleared.marks x).1 (sym (marks.kept x stays fresh) ∙ marked, stays))
      ],
      λ either. elim either [
        | inl marked ↦
            let was = (cleared.marks x).0 marked in
            marks.kept x was.1 (λ held. unmarked x held was.0) ∙ was.0
        | inr held ↦ marks.come x held
      ],
    );
  }

  -- the object owns what it lists then
  pub owns-remarked : Owns more after
  owns-remarked = owns-adds (set lists o front) o taken more adds mid after can-mid adds-after
      (owns-given_up lists bits o front given within before owns)

-- Clear items

abbrev clear_one : Bool → ℕ
clear_one b = cond (not b) 1 0

-- as many are clear as can be marked, or more
pub can-few : (bits : List Bool) (items : List ℕ) → CanMark bits items → length items ≤ clear_count bits
can-few bits [] can = omega arith
can-few bits (y ∷ ys) can =
    let at : slice_get bits y ≡ Some false = can.clear 0 y refl in
    let within = slice_get_within bits y false at in
    let less = sum_by-set clear_one bits y true false within in
    let was : clear_one (bit bits y) ≡ 1 = ap clear_one (bit-from_at bits y false at) in
    let rest = can-few (set bits y true) ys (can-back bits (set bits y true) (y ∷ []) ys can (adds-one bits y within)) in
    omega (arith, less, was, rest)

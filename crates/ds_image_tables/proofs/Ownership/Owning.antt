-- How ownership follows the lists and the marks: items given to an object, items that it gives up, and what lists determine.
use Rattle.std.proofs.Common.{◌≡◌, ℕ, zero, suc, ◌+◌, ◌<◌, ◌⊎◌, Bool, true, false, List, [], ◌∷◌, ◌++◌, length, get_or, set, replicate, inl, inr, refl, sym, ap, ◌∙◌, subst, arith, ◌≢◌}
use Rattle.std.specs.Prelude.{Some, slice_get}
use Rattle.std.proofs.lemmas.Bool.{cases_lt, cases_eq, cases_Bool, false≢true}
use Rattle.std.proofs.lemmas.List.{get_or_past, get_or_default, get_or-set_same, get_or-set_other, get_or_append_left, get_or_push, get_or-append_right, ext_get_or, length_push}
use Rattle.std.proofs.lemmas.Option.{slice_get_within}
use Rattle.ds_image_tables.specs.Owns.{list_of, IsAt, bit, Owns}
use Rattle.ds_image_tables.specs.Owned.{CanMark, AddsMarks, with_marks}
use Rattle.ds_image_tables.proofs.Spelling.Places.{at-append, at-append_left, at-append_right, Contains-from_at, at-from_Contains, marked-within, bit-at, bit-from_at}
use Rattle.ds_image_tables.proofs.Ownership.Marking.{adds-many, clears-many, can-one, ClearsMarks}

-- object o lists these items behind those that it listed, and every other object lists what it did
pub record AddsItems (lists : List (List ℕ)) (o : ℕ) (items : List ℕ) (more : List (List ℕ)) : Type 0 where
  pub here : list_of more o ≡ list_of lists o ++ items
  pub elsewhere : (p : ℕ) → p ≢ o → list_of more p ≡ list_of lists p

-- Places of items when an object lists more

module _ (lists : List (List ℕ)) (o : ℕ) (items : List ℕ) (more : List (List ℕ)) (adds : AddsItems lists o items more) where
  pub at-old : (p i x : ℕ) → IsAt lists p i x → IsAt more p i x
  at-old p i x at = elim (cases_eq p o) [
    | inl same ↦
        let here : IsAt lists o i x = subst (λ q. IsAt lists q i x) same at in
        let kept : slice_get (list_of lists o ++ items) i ≡ Some x = at-append_left (list_of lists o) items i x here in
        subst (λ q. IsAt more q i x) (sym same) (subst (λ l. slice_get l i ≡ Some x) (sym adds.here) kept)
    | inr apart ↦ subst (λ l. slice_get l i ≡ Some x) (sym (adds.elsewhere p apart)) at
  ]

  pub at-new : (j x : ℕ) → slice_get items j ≡ Some x → IsAt more o (length (list_of lists o) + j) x
  at-new j x at = subst (λ l. slice_get l (length (list_of lists o) + j) ≡ Some x) (sym adds.here)
      (at-append_right (list_of lists o) items j x at)

  pub at-more : (p i x : ℕ) → IsAt more p i x
      → IsAt lists p i x ⊎ ((j : ℕ) × (p ≡ o) × (i ≡ length (list_of lists o) + j) × (slice_get items j ≡ Some x))
  at-more p i x at = elim (cases_eq p o) [
    | inl same ↦
        let here : IsAt more o i x = subst (λ q. IsAt more q i x) same at in
        elim (at-append (list_of lists o) items i x (subst (λ l. slice_get l i ≡ Some x) adds.here here)) [
          | inl old ↦ inl (subst (λ q. IsAt lists q i x) (sym same) old)
          | inr new ↦ inr (new.0, same, new.1, new.2)
        ]
    | inr apart ↦ inl (subst (λ l. slice_get l i ≡ Some x) (adds.elsewhere p apart) at)
  ]

  -- an item isn't listed both before and among what was added
  pub not-twice : (bits : List Bool) → Owns more bits → (p i j x : ℕ) → IsAt lists p i x → slice_get items j ≡ Some x → ⊥
  not-twice bits owns p i j x at new =
      let same = owns.once p i o (length (list_of lists o) + j) x (at-old p i x at) (at-new j x new) in
      let here : IsAt lists o i x = subst (λ q. IsAt lists q i x) same.0 at in
      omega (arith, same.1, slice_get_within (list_of lists o) i x here)

  -- Items given, and items given up

  module _ (bits after : List Bool) where
    pub owns-adds : CanMark bits items → AddsMarks bits items after → Owns lists bits → Owns more after
    owns-adds can marks owns = record {
      once = λ p i q j x one two. elim (at-more p i x one) [
        | inl old ↦ elim (at-more q j x two) [
          | inl old' ↦ owns.once p i q j x old old'
          | inr new' ↦ absurd (both p i x old (can.clear new'.0 x new'.3))
        ]
        | inr new ↦ elim (at-more q j x two) [
          | inl old' ↦ absurd (both q j x old' (can.clear new.0 x new.3))
          | inr new' ↦ (new.1 ∙ sym new'.1, new.2 ∙ ap (λ k. length (list_of lists o) + k) (can.once new.0 new'.0 x new.3 new'.3) ∙ sym new'.2)
        ]
      ];
      marked = λ p i x at. elim (at-more p i x at) [
        | inl old ↦ (marks.marks x).1 (inl (owns.marked p i x old))
        | inr new ↦ (marks.marks x).1 (inr (Contains-from_at items new.0 x new.3))
      ];
      listed = λ x marked. elim ((marks.marks x).0 marked) [
        | inl old ↦ let at = owns.listed x old in (at.0, (at.1.0, at-old at.0 at.1.0 x at.1.1))
        | inr held ↦ let at = at-from_Contains items x held in (o, (length (list_of lists o) + at.0, at-new at.0 x at.1))
      ];
    }
      where
        both : (p i x : ℕ) → IsAt lists p i x → slice_get bits x ≡ Some false → ⊥
        both p i x at free = false≢true (sym (bit-from_at bits x false free) ∙ owns.marked p i x at)

    pub owns-gives : Owns more bits → ClearsMarks bits items after → Owns lists after
    owns-gives owns marks = record {
      once = λ p i q j x one two. owns.once p i q j x (at-old p i x one) (at-old q j x two);
      marked = λ p i x at. (marks.marks x).1 (
        owns.marked p i x (at-old p i x at),
        λ held. let new = at-from_Contains items x held in not-twice bits owns p i new.0 x at new.1,
      );
      listed = λ x marked.
          let was = (marks.marks x).0 marked in
          let at = owns.listed x was.0 in
          elim (at-more at.0 at.1.0 x at.1.1) [
            | inl old ↦ (at.0, (at.1.0, old))
            | inr new ↦ absurd (was.1 (Contains-from_at items new.0 x new.3))
          ];
    }

    -- where ownership holds before and after, the items could be marked, and just they are
    pub can-from_owns : Owns lists bits → Owns more after → length after ≡ length bits → CanMark bits items
    can-from_owns owns owns' count = record {
      clear = λ i x at.
          let marked = owns'.marked o (length (list_of lists o) + i) x (at-new i x at) in
          let within : x < length bits = omega (arith, marked-within after x marked, count) in
          let clear : bit bits x ≡ false = elim (cases_Bool (bit bits x)) [
            | inl was ↦ let old = owns.listed x was in absurd (not-twice after owns' old.0 old.1.0 i x old.1.1 at)
            | inr clear ↦ clear
          ] in
          bit-at bits x within ∙ ap Some clear;
      once = λ i j x one two.
          let same = owns'.once o (length (list_of lists o) + i) o (length (list_of lists o) + j) x (at-new i x one) (at-new j x two) in
          omega (arith, same.1);
    }

    pub adds-from_owns : Owns lists bits → Owns more after → length after ≡ length bits → AddsMarks bits items after
    adds-from_owns owns owns' count = record {
      count = count;
      marks = λ x. (
        λ marked.
            let at = owns'.listed x marked in
            elim (at-more at.0 at.1.0 x at.1.1) [
              | inl old ↦ inl (owns.marked at.0 at.1.0 x old)
              | inr new ↦ inr (Contains-from_at items new.0 x new.3)
            ],
        λ either. elim either [
          | inl was ↦ let at = owns.listed x was in owns'.marked at.0 at.1.0 x (at-old at.0 at.1.0 x at.1.1)
          | inr held ↦ let at = at-from_Contains items x held in owns'.marked o (length (list_of lists o) + at.0) x (at-new at.0 x at.1)
        ],
      );
    }

-- Which lists have more items

pub adds-list : (lists : List (List ℕ)) (o : ℕ) (items : List ℕ) → o < length lists
    → AddsItems lists o items (set lists o (list_of lists o ++ items))
adds-list lists o items within = record {
  here = get_or-set_same lists o (list_of lists o ++ items) [] within;
  elsewhere = λ p apart. get_or-set_other lists o p (list_of lists o ++ items) [] apart;
}

pub adds-last : (lists : List (List ℕ)) (items : List ℕ) → AddsItems lists (length lists) items (lists ++ items ∷ [])
adds-last lists items = record {
  here = get_or_push lists items [] (length lists) refl ∙ ap (λ l. l ++ items) (sym (get_or_past lists (length lists) [] (omega arith)));
  elsewhere = λ p apart. elim (cases_lt p (length lists)) [
    | inl before ↦ get_or_append_left lists (items ∷ []) [] p before
    | inr past ↦
        let above : length lists < p = omega arith in
        get_or_past (lists ++ items ∷ []) p [] (omega (arith, length_push lists items, above)) ∙ sym (get_or_past lists p [] past)
  ];
}

-- an object that lists some items and then more lists them added to the first
pub adds-back : (lists : List (List ℕ)) (o : ℕ) (kept items : List ℕ) → o < length lists → list_of lists o ≡ kept ++ items
    → AddsItems (set lists o kept) o items lists
adds-back lists o kept items within is = record {
  here = is ∙ ap (λ l. l ++ items) (sym (get_or-set_same lists o kept [] within));
  elsewhere = λ p apart. sym (get_or-set_other lists o p kept [] apart);
}

-- Items given to an object behind those that it lists

pub owns-grown_by : (lists : List (List ℕ)) (bits : List Bool) (o : ℕ) (items : List ℕ) → o < length lists → CanMark bits items → Owns lists bits
    → Owns (set lists o (list_of lists o ++ items)) (with_marks bits items true)
owns-grown_by lists bits o items within can owns =
    owns-adds lists o items (set lists o (list_of lists o ++ items)) (adds-list lists o items within) bits (with_marks bits items true) can
    (adds-many bits items (λ i x at. slice_get_within bits x false (can.clear i x at))) owns

pub owns-grown : (lists : List (List ℕ)) (bits : List Bool) (o x : ℕ) → o < length lists → get_or bits x true ≡ false → Owns lists bits
    → Owns (set lists o (list_of lists o ++ x ∷ [])) (set bits x true)
owns-grown lists bits o x within clear owns =
    let there : x < length bits = elim (cases_lt x (length bits)) [
      | inl in_range ↦ in_range
      | inr past ↦ absurd (false≢true (sym clear ∙ get_or_past bits x true past))
    ] in
    let at : slice_get bits x ≡ Some false = bit-at bits x there ∙ ap Some (get_or_default bits x false true there ∙ clear) in
    owns-grown_by lists bits o (x ∷ []) within (can-one bits x at) owns

-- Items that an object gives up from the end of what it lists

pub owns-given_up : (lists : List (List ℕ)) (bits : List Bool) (o : ℕ) (kept items : List ℕ) → o < length lists → list_of lists o ≡ kept ++ items
    → Owns lists bits → Owns (set lists o kept) (with_marks bits items false)
owns-given_up lists bits o kept items within is owns =
    let adds = adds-back lists o kept items within is in
    owns-gives (set lists o kept) o items lists adds bits (with_marks bits items false) owns
    (clears-many bits items (λ i x at. marked-within bits x
    (owns.marked o (length (list_of (set lists o kept) o) + i) x (at-new (set lists o kept) o items lists adds i x at))))

pub owns-shrunk : (lists : List (List ℕ)) (bits : List Bool) (o x : ℕ) (kept : List ℕ) → o < length lists → list_of lists o ≡ kept ++ x ∷ []
    → Owns lists bits → Owns (set lists o kept) (set bits x false)
owns-shrunk lists bits o x kept within is owns = owns-given_up lists bits o kept (x ∷ []) within is owns

-- an object gives up all that it lists
pub owns-removed : (lists : List (List ℕ)) (bits : List Bool) (o : ℕ) → o < length lists → Owns lists bits
    → Owns (set lists o []) (with_marks bits (list_of lists o) false)
owns-removed lists bits o within owns = owns-given_up lists bits o [] (list_of lists o) within refl owns

-- What lists determine

-- ownership speaks of each object's list alone
pub owns-alike : (lists more : List (List ℕ)) (bits : List Bool) → ((o : ℕ) → list_of more o ≡ list_of lists o) → Owns lists bits
    → Owns more bits
owns-alike lists more bits same owns = record {
  once = λ o i p j x one two. owns.once o i p j x (back o i x one) (back p j x two);
  marked = λ o i x at. owns.marked o i x (back o i x at);
  listed = λ x marked.
      let at = owns.listed x marked in
      (at.0, (at.1.0, subst (λ l. slice_get l at.1.0 ≡ Some x) (sym (same at.0)) at.1.1));
}
  where
    back : (o i x : ℕ) → IsAt more o i x → IsAt lists o i x
    back o i x at = subst (λ l. slice_get l i ≡ Some x) (same o) at

-- objects that list nothing may be added at the end
pub owns-empties : (lists : List (List ℕ)) (n : ℕ) (bits : List Bool) → Owns lists bits → Owns (lists ++ replicate n []) bits
owns-empties lists n bits owns = owns-alike lists (lists ++ replicate n []) bits same owns
  where
    nothing : (m k : ℕ) → list_of (replicate m []) k ≡ []
    nothing zero k = refl
    nothing (suc m) zero = refl
    nothing (suc m) (suc k) = nothing m k

    same : (o : ℕ) → list_of (lists ++ replicate n []) o ≡ list_of lists o
    same o = elim (cases_lt o (length lists)) [
      | inl before ↦ get_or_append_left lists (replicate n []) [] o before
      | inr past ↦ get_or-append_right lists (replicate n []) (length lists) o [] refl past ∙ nothing n _ ∙ sym (get_or_past lists o [] past)
    ]

-- no lists leave every bit clear
pub owns-none : (n : ℕ) → Owns [] (replicate n false)
owns-none n = record {
  once = λ o i p j x one two. absurd (cc);
  marked = λ o i x at. absurd (cc);
  listed = λ x marked. absurd (false≢true (sym (clear n x) ∙ marked));
}
  where
    clear : (m x : ℕ) → bit (replicate m false) x ≡ false
    clear zero x = refl
    clear (suc m) zero = refl
    clear (suc m) (suc x) = clear m x

-- lists have one row of marks of each length
pub owns-same_bits : (lists : List (List ℕ)) (a b : List Bool) → length a ≡ length b → Owns lists a → Owns lists b → a ≡ b
owns-same_bits lists a b count one two = ext_get_or false a b count (λ x within. same (bit a x) (bit b x) (across one two x) (across two one x))
  where
    across : {c d : List Bool} → Owns lists c → Owns lists d → (x : ℕ) → bit c x ≡ true → bit d x ≡ true
    across owns owns' x marked = let at = owns.listed x marked in owns'.marked at.0 at.1.0 x at.1.1

    same : (p q : Bool) → (p ≡ true → q ≡ true) → (q ≡ true → p ≡ true) → p ≡ q
    same true q there back = sym (there refl)
    same false true there back = back refl
    same false false there back = refl

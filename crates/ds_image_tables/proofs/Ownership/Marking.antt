-- Which lists can be marked, and what marks are after one list and another.
use Rattle.std.proofs.Common.{◌≡◌, ℕ, suc, ◌+◌, ◌<◌, Bool, true, false, List, [], ◌∷◌, ◌++◌, length, set, inl, inr, refl, sym, ap, ◌∙◌, arith}
use Rattle.std.specs.Prelude.{Contains, Some, slice_get, ◌↔◌}
use Rattle.std.proofs.lemmas.Bool.{cases_eq, cases_Bool, false≢true}
use Rattle.std.proofs.lemmas.List.{get_or-set_same, get_or-set_other, length-set}
use Rattle.std.proofs.lemmas.List.Elements.{Contains-append_left, Contains-append_right, Contains-append_cases}
use Rattle.std.proofs.lemmas.Option.{slice_get_within}
use Rattle.ds_image_tables.specs.Owns.{bit}
use Rattle.ds_image_tables.specs.Owned.{CanMark, AddsMarks, with_marks}
use Rattle.ds_image_tables.proofs.Spelling.Places.{at-append, at-append_left, at-append_right, at-single, Contains-from_at, at-from_Contains, bit-at, bit-from_at}

-- an item is marked exactly where it was before and is none of these
pub record ClearsMarks (bits : List Bool) (items : List ℕ) (after : List Bool) : Type 0 where
  pub count : length after ≡ length bits
  pub marks : (x : ℕ) → (bit after x ≡ true) ↔ ((bit bits x ≡ true) × ¬ Contains items x)

Contains-single : (y x : ℕ) → Contains (y ∷ []) x → x ≡ y
Contains-single y x held = let at = at-from_Contains (y ∷ []) x held in (at-single y at.0 x at.1).1

-- No item, and one item

pub adds-none : (bits : List Bool) → AddsMarks bits [] bits
adds-none bits = record {
  count = refl;
  marks = λ x. (λ marked. inl marked, λ either. elim either [ inl marked ↦ marked | inr held ↦ absurd (omega (arith, held.1)) ]);
}

pub adds-one : (bits : List Bool) (y : ℕ) → y < length bits → AddsMarks bits (y ∷ []) (set bits y true)
adds-one bits y within = record {
  count = length-set bits y true;
  marks = λ x. elim (cases_eq x y) [
    | inl same ↦ (
      λ _. inr (Contains-from_at (y ∷ []) 0 x (ap Some (sym same))),
      λ _. ap (bit (set bits y true)) same
          ∙ get_or-set_same bits y true false within,
    )
    | inr apart ↦ (
      λ marked. inl (sym (get_or-set_other bits y x true false apart) ∙ marked),
      λ either. elim either [
        | inl marked ↦ get_or-set_other bits y x true false apart ∙ marked
        | inr held ↦ absurd (apart (Contains-single y x held))
      ],
    )
  ];
}

pub clears-one : (bits : List Bool) (y : ℕ) → y < length bits → ClearsMarks bits (y ∷ []) (set bits y false)
clears-one bits y within = record {
  count = length-set bits y false;
  marks = λ x. elim (cases_eq x y) [
    | inl same ↦ (
      λ marked. absurd (false≢true (sym (get_or-set_same bits y false false within) ∙ ap (bit (set bits y false)) (sym same) ∙ marked)),
      λ both. absurd (both.1 (Contains-from_at (y ∷ []) 0 x (ap Some (sym same)))),
    )
    | inr apart ↦ (
      λ marked. (sym (get_or-set_other bits y x false false apart) ∙ marked, λ held. apart (Contains-single y x held)),
      λ both. get_or-set_other bits y x false false apart ∙ both.0,
    )
  ];
}

pub clears-none : (bits : List Bool) → ClearsMarks bits [] bits
clears-none bits = record {
  count = refl;
  marks = λ x. (λ marked. (marked, λ held. absurd (omega (arith, held.1))), λ both. both.0);
}

-- One list after another

pub adds-joined : (a b c : List Bool) (xs ys : List ℕ) → AddsMarks a xs b → AddsMarks b ys c → AddsMarks a (xs ++ ys) c
adds-joined a b c xs ys first second = record {
  count = second.count ∙ first.count;
  marks = λ x. (
    λ marked. elim ((second.marks x).0 marked) [
      | inl before ↦ elim ((first.marks x).0 before) [
        | inl old ↦ inl old
        | inr held ↦ inr (Contains-append_left xs ys x held)
      ]
      | inr held ↦ inr (Contains-append_right xs ys x held)
    ],
    λ either. elim either [
      | inl old ↦ (second.marks x).1 (inl ((first.marks x).1 (inl old)))
      | inr held ↦ elim (Contains-append_cases xs ys x held) [
        | inl front ↦ (second.marks x).1 (inl ((first.marks x).1 (inr front)))
        | inr back ↦ (second.marks x).1 (inr back)
      ]
    ],
  );
}

pub clears-joined : (a b c : List Bool) (xs ys : List ℕ) → ClearsMarks a xs b → ClearsMarks b ys c → ClearsMarks a (xs ++ ys) c
clears-joined a b c xs ys first second = record {
  count = second.count ∙ first.count;
  marks = λ x. (
    λ marked.
        let late = (second.marks x).0 marked in
        let early = (first.marks x).0 late.0 in
        (early.0, λ held. elim (Contains-append_cases xs ys x held) [ inl front ↦ early.1 front | inr back ↦ late.1 back ]),
    λ both. (second.marks x).1 (
      (first.marks x).1 (both.0, λ held. both.1 (Contains-append_left xs ys x held)),
      λ held. both.1
          (Contains-append_right xs ys x held),
    ),
  );
}

pub adds-many : (bits : List Bool) (items : List ℕ) → ((i x : ℕ) → slice_get items i ≡ Some x → x < length bits)
    → AddsMarks bits items (with_marks bits items true)
adds-many bits [] within = adds-none bits
adds-many bits (y ∷ ys) within =
    let first = adds-one bits y (within 0 y refl) in
    adds-joined bits (set bits y true) (with_marks (set bits y true) ys true) (y ∷ []) ys first
    (adds-many (set bits y true) ys (λ i x at. omega (arith, within (suc i) x at, first.count)))

pub clears-many : (bits : List Bool) (items : List ℕ) → ((i x : ℕ) → slice_get items i ≡ Some x → x < length bits)
    → ClearsMarks bits items (with_marks bits items false)
clears-many bits [] within = clears-none bits
clears-many bits (y ∷ ys) within =
    let first = clears-one bits y (within 0 y refl) in
    clears-joined bits (set bits y false) (with_marks (set bits y false) ys false) (y ∷ []) ys first
    (clears-many (set bits y false) ys (λ i x at. omega (arith, within (suc i) x at, first.count)))

-- Lists that can be marked

pub can-none : (bits : List Bool) → CanMark bits []
can-none bits = record { clear = λ i x at. absurd (cc); once = λ i j x at there. absurd (cc) }

pub can-one : (bits : List Bool) (y : ℕ) → slice_get bits y ≡ Some false → CanMark bits (y ∷ [])
can-one bits y free = record {
  clear = λ i x at. ap (slice_get bits) (at-single y i x at).1 ∙ free;
  once = λ i j x at there. (at-single y i x at).0 ∙ sym (at-single y j x there).0;
}

pub can-front : (bits : List Bool) (xs ys : List ℕ) → CanMark bits (xs ++ ys) → CanMark bits xs
can-front bits xs ys can = record {
  clear = λ i x at. can.clear i x (at-append_left xs ys i x at);
  once = λ i j x at there. can.once i j x (at-append_left xs ys i x at) (at-append_left xs ys j x there);
}

-- an item that isn't marked afterwards wasn't before, and is none of the list
pub clear-before : (a b : List Bool) (xs : List ℕ) (x : ℕ) → AddsMarks a xs b → slice_get b x ≡ Some false
    → (slice_get a x ≡ Some false) × ¬ Contains xs x
clear-before a b xs x adds free =
    let within : x < length a = omega (arith, slice_get_within b x false free, adds.count) in
    let unmarked = bit-from_at b x false free in
    let was : bit a x ≡ false = elim (cases_Bool (bit a x)) [
      | inl marked ↦ absurd (false≢true (sym unmarked ∙ (adds.marks x).1 (inl marked)))
      | inr clear ↦ clear
    ] in
    (bit-at a x within ∙ ap Some was, λ held. false≢true (sym unmarked ∙ (adds.marks x).1 (inr held)))

pub can-joined : (a b : List Bool) (xs ys : List ℕ) → CanMark a xs → AddsMarks a xs b → CanMark b ys → CanMark a (xs ++ ys)
can-joined a b xs ys first adds second = record {
  clear = λ i x at. elim (at-append xs ys i x at) [
    | inl front ↦ first.clear i x front
    | inr back ↦ (clear-before a b xs x adds (second.clear back.0 x back.2)).0
  ];
  once = λ i j x at there. elim (at-append xs ys i x at) [
    | inl front ↦ elim (at-append xs ys j x there) [
      | inl front' ↦ first.once i j x front front'
      | inr back' ↦ absurd ((clear-before a b xs x adds (second.clear back'.0 x back'.2)).1 (Contains-from_at xs i x front))
    ]
    | inr back ↦ elim (at-append xs ys j x there) [
      | inl front' ↦ absurd ((clear-before a b xs x adds (second.clear back.0 x back.2)).1 (Contains-from_at xs j x front'))
      | inr back' ↦ back.1 ∙ ap (λ k. length xs + k) (second.once back.0 back'.0 x back.2 back'.2) ∙ sym back'.1
    ]
  ];
}

-- what can be marked behind a list can be marked once that list is
pub can-back : (a b : List Bool) (xs ys : List ℕ) → CanMark a (xs ++ ys) → AddsMarks a xs b → CanMark b ys
can-back a b xs ys can adds = record {
  clear = λ i x at.
      let free = can.clear (length xs + i) x (at-append_right xs ys i x at) in
      let within : x < length b = omega (arith, slice_get_within a x false free, adds.count) in
      let unmarked : bit b x ≡ false = elim (cases_Bool (bit b x)) [
        | inl marked ↦ elim ((adds.marks x).0 marked) [
          | inl was ↦ absurd (false≢true (sym (bit-from_at a x false free) ∙ was))
          | inr held ↦
              let early = at-from_Contains xs x held in
              let same = can.once early.0 (length xs + i) x (at-append_left xs ys early.0 x early.1) (at-append_right xs ys i x at) in
              absurd (omega (arith, same, slice_get_within xs early.0 x early.1))
        ]
        | inr clear ↦ clear
      ] in
      bit-at b x within ∙ ap Some unmarked;
  once = λ i j x at there.
      omega (arith, can.once (length xs + i) (length xs + j) x (at-append_right xs ys i x at) (at-append_right xs ys j x there));
}

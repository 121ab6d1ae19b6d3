-- An object that lists other items than before owns them, where the marks follow.
use Rattle.std.proofs.Common.{◌≡◌, ◌≢◌, ℕ, zero, suc, ◌<◌, ◌⊎◌, inl, inr, Bool, List, [], ◌∷◌, length, Some, slice_get, slice_set, sym, ap, subst, ◌∙◌, get_or-set_same, get_or-set_other, arith}
use Rattle.std.specs.Prelude.{Contains}
use Rattle.std.proofs.lemmas.Bool.{cases_eq, false≢true}
use Rattle.ds_image_tables.specs.Owns.{Owns, IsAt, list_of}
use Rattle.ds_image_tables.proofs.Spelling.Places.{Contains-from_at, at-from_Contains}
use Rattle.ds_plan_laws_gone.specs.Replaced.{ReplacesItems, ReplacesMarks, CanReplace, BitsReplaced}
use Rattle.ds_image_tables.proofs.Ownership.Marking.{ClearsMarks}

-- whether an item stands in a list
pub contains-or_not : (xs : List ℕ) (x : ℕ) → Contains xs x ⊎ ¬ Contains xs x
contains-or_not [] x = inr (λ held. absurd (omega (arith, held.1)))
contains-or_not (y ∷ xs) x = elim (cases_eq y x) [
  | inl here ↦ inl (Contains-from_at (y ∷ xs) 0 x (ap Some here))
  | inr other ↦ elim (contains-or_not xs x) [
    | inl held ↦ let at = at-from_Contains xs x held in inl (Contains-from_at (y ∷ xs) (suc at.0) x at.1)
    | inr none ↦ inr (λ held. let at = at-from_Contains (y ∷ xs) x held in past at.0 at.1 other none)
  ]
]
  where
    past : (i : ℕ) → slice_get (y ∷ xs) i ≡ Some x → y ≢ x → ¬ Contains xs x → ⊥
    past zero at other none = other (let same : y ≡ x = cc in same)
    past (suc i) at other none = none (Contains-from_at xs i x at)

-- bits that are known item by item are such marks
pub marks-from_bits : (bits : List Bool) (old new : List ℕ) (after : List Bool) → BitsReplaced bits old new after → ReplacesMarks bits old new after
marks-from_bits bits old new after known = record {
  count = known.count;
  marks = λ x. elim (contains-or_not new x) [
    | inl held ↦ (λ marked. inl held, λ either. known.taken x held)
    | inr none ↦ elim (contains-or_not old x) [
      | inl was ↦ (
        λ marked. absurd (false≢true (sym (known.given x was none) ∙ marked)),
        λ either. elim either [ inl held ↦ absurd (none held) | inr both ↦ absurd (both.1 was) ],
      )
      | inr not_old ↦ (
        λ marked. inr (sym (known.kept x not_old none) ∙ marked, not_old),
        λ either. elim either [ inl held ↦ absurd (none held) | inr both ↦ known.kept x not_old none ∙ both.0 ],
      )
    ]
  ];
}

-- an object's list was replaced
pub owns-replaced : (lists others : List (List ℕ)) (bits after : List Bool) (o : ℕ) (new : List ℕ) → ReplacesItems lists o new others
    → CanReplace bits (list_of lists o) new → ReplacesMarks bits (list_of lists o) new after → Owns lists bits → Owns others after
owns-replaced lists others bits after o new replaces can marks owns = record {
  once = λ p i q j x one two. elim (where-at p i x one) [
    | inl here ↦ elim (where-at q j x two) [
      | inl here' ↦ (here.0 ∙ sym here'.0, can.once i j x here.1 here'.1)
      | inr other' ↦ absurd (apart i q j x here.1 other'.0 other'.1)
    ]
    | inr other ↦ elim (where-at q j x two) [
      | inl here' ↦ absurd (apart j p i x here'.1 other.0 other.1)
      | inr other' ↦ owns.once p i q j x other.1 other'.1
    ]
  ];
  marked = λ p i x at. elim (where-at p i x at) [
    | inl here ↦ (marks.marks x).1 (inl (Contains-from_at new i x here.1))
    | inr other ↦ (marks.marks x).1 (inr (owns.marked p i x other.1, λ held. not-old p i x other.0 other.1 held))
  ];
  listed = λ x marked. elim ((marks.marks x).0 marked) [
    | inl held ↦ let at = at-from_Contains new x held in (o, (at.0, subst (λ l. slice_get l at.0 ≡ Some x) (sym replaces.here) at.1))
    | inr both ↦
        let at = owns.listed x both.0 in (
          at.0,
          (
            at.1.0,
            subst (λ l. slice_get l at.1.0 ≡ Some x) (sym (replaces.elsewhere at.0 (λ same.
                both.1 (Contains-from_at (list_of lists o) at.1.0 x (subst (λ k. IsAt lists k at.1.0 x) same at.1.1))))) at.1.1,
          ),
        )
  ];
}
  where
    where-at : (p i x : ℕ) → IsAt others p i x → ((p ≡ o) × (slice_get new i ≡ Some x)) ⊎ ((p ≢ o) × IsAt lists p i x)
    where-at p i x at = elim (cases_eq p o) [
      | inl here ↦ inl (here, subst (λ l. slice_get l i ≡ Some x) (ap (list_of others) here ∙ replaces.here) at)
      | inr other ↦ inr (other, subst (λ l. slice_get l i ≡ Some x) (replaces.elsewhere p other) at)
    ]

    not-old : (p i x : ℕ) → p ≢ o → IsAt lists p i x → ¬ Contains (list_of lists o) x
    not-old p i x other at held =
        let old = at-from_Contains (list_of lists o) x held in
        other (owns.once p i o old.0 x at old.1).0

    apart : (i p j x : ℕ) → slice_get new i ≡ Some x → p ≢ o → IsAt lists p j x → ⊥
    apart i p j x at other there = elim (can.from i x at) [
      | inl old ↦ not-old p j x other there old
      | inr clear ↦ false≢true (sym clear ∙ owns.marked p j x there)
    ]

-- the lists with another one for an object
pub replaces-set : (lists : List (List ℕ)) (o : ℕ) (new : List ℕ) → o < length lists → ReplacesItems lists o new (slice_set lists o new)
replaces-set lists o new within = record {
  here = get_or-set_same lists o new [] within;
  elsewhere = λ p apart. get_or-set_other lists o p new [] apart;
}

-- an object gives up all that it lists
pub owns-given_all : (lists others : List (List ℕ)) (bits after : List Bool) (o : ℕ) → ReplacesItems lists o [] others
    → ClearsMarks bits (list_of lists o) after → Owns lists bits → Owns others after
owns-given_all lists others bits after o replaces clears owns =
    owns-replaced lists others bits after o [] replaces
    (record { once = λ i j x one two. absurd (cc); from = λ i x at. absurd (cc) })
    (record {
      count = clears.count;
      marks = λ x. (
        λ marked. inr ((clears.marks x).0 marked),
        λ either. elim either [ inl held ↦ absurd (omega (arith, held.1)) | inr both ↦ (clears.marks x).1 both ],
      );
    })
    owns

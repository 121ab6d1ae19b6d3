-- Parents put down directory by directory.
use Rattle.std.proofs.Common.{◌≡◌, ◌≢◌, ℕ, ◌+◌, ◌<◌, ◌≤◌, ◌⊎◌, cond, Bool, eqb, List, [], ◌∷◌, ◌++◌, length, set, Option, None, Some, refl, sym, ap, ◌∙◌, subst, inl, inr, arith}
use Rattle.std.specs.Prelude.{replicate}
use Rattle.std.specs.List.{filter_map}
use Rattle.std.proofs.lemmas.Bool.{cases_eq, cases_lt, eq-eqb, ne_eqb}
use Rattle.std.proofs.lemmas.List.{append-nil, length-set, length-replicate, get_or-set_same, get_or-set_other, get_or-replicate, get_or_past}
use Rattle.std.proofs.lemmas.List.Sums.{sum_by_push}
use Rattle.ds_image_tables.specs.Parents.{parent_of}
use Rattle.ds_image_parts.specs.Parts.{Parts}
use Rattle.ds_check.specs.Unreached.{named_at, times, set_named, GivesParents, AreNamers}

abbrev one : Bool → ℕ
one b = cond b 1 0

times-push : (o : ℕ) (named : List ℕ) (x : ℕ) → times o (named ++ x ∷ []) ≡ times o named + one (eqb x o)
times-push o named x = sum_by_push (λ y. one (eqb y o)) named x

pub sets-none : (old : List (Option ℕ)) (dir : ℕ) → GivesParents old [] dir old
sets-none old dir = record { count = refl; from = λ o parent is. inr is; none = λ o is. (is, λ there. refl) }

module _ (old : List (Option ℕ)) (named : List ℕ) (dir x : ℕ) (new : List (Option ℕ)) (sets : GivesParents old named dir new) where
  from-more : (o parent : ℕ) → parent_of (set new x (Some dir)) o ≡ Some parent
      → ((parent ≡ dir) × (1 ≤ times o (named ++ x ∷ []))) ⊎ (parent_of old o ≡ Some parent)
  from-more o parent is = elim (cases_eq o x) [
    | inl same ↦ elim (cases_lt x (length new)) [
      | inl there ↦
          let put : Some dir ≡ Some parent = sym (get_or-set_same new x (Some dir) None there) ∙ ap (parent_of (set new x (Some dir))) (sym same) ∙ is in
          let parent_is : parent ≡ dir = cc in
          inl (parent_is, omega (arith, times-push o named x, ap one (eq-eqb x o (sym same))))
      | inr past ↦
          let nothing : None ≡ Some parent = sym (get_or_past (set new x (Some dir)) o None (omega (arith, length-set new x (Some dir), past, same))) ∙ is in
          absurd (cc)
    ]
    | inr other ↦ elim (sets.from o parent (sym (get_or-set_other new x o (Some dir) None other) ∙ is)) [
      | inl here ↦ inl (here.0, omega (arith, times-push o named x, here.1))
      | inr before ↦ inr before
    ]
  ]

  none-more : (o : ℕ) → parent_of (set new x (Some dir)) o ≡ None → (parent_of old o ≡ None) × (o < length old → times o (named ++ x ∷ []) ≡ 0)
  none-more o is = elim (cases_eq o x) [
    | inl same ↦ elim (cases_lt x (length new)) [
      | inl there ↦
          let put : Some dir ≡ None = sym (get_or-set_same new x (Some dir) None there) ∙ ap (parent_of (set new x (Some dir))) (sym same) ∙ is in
          absurd (cc)
      | inr past ↦ (get_or_past old o None (omega (arith, same, past, sets.count)), λ there. absurd (omega (arith, there, same, past, sets.count)))
    ]
    | inr other ↦
        let before = sets.none o (sym (get_or-set_other new x o (Some dir) None other) ∙ is) in
        let apart : x ≢ o = λ same. other (sym same) in
        (before.0, λ there. omega (arith, before.1 there, times-push o named x, ap one (ne_eqb x o apart)))
  ]

  pub sets-more : GivesParents old (named ++ x ∷ []) dir (set new x (Some dir))
  sets-more = record { count = length-set new x (Some dir) ∙ sets.count; from = from-more; none = none-more }

-- the object of one more room
pub sets-room : {A : Type 0} (f : A → Option ℕ) (room : A) (old : List (Option ℕ)) (named : List ℕ) (dir : ℕ) (new : List (Option ℕ)) (r : Option ℕ)
    → f room ≡ r → GivesParents old named dir new → GivesParents old (named ++ filter_map f (room ∷ [])) dir (set_named new r dir)
sets-room f room old named dir new None is sets =
    let nothing : filter_map f (room ∷ []) ≡ [] = rw is refl in
    subst (λ l. GivesParents old l dir new) (sym (append-nil named) ∙ ap (λ l. named ++ l) (sym nothing)) sets
sets-room f room old named dir new (Some x) is sets =
    let just : filter_map f (room ∷ []) ≡ x ∷ [] = rw is refl in
    subst (λ l. GivesParents old (named ++ l) dir (set new x (Some dir))) (sym just) (sets-more old named dir x new sets)

-- no directory has named anything
pub namers-none : (p : Parts) (n : ℕ) → AreNamers p 0 (replicate n None)
namers-none p n = record {
  named = λ o dir is. let wrong : None ≡ Some dir = sym (clear n o) ∙ is in absurd (cc);
  none = λ o dir there before is. absurd (omega (arith, before));
}
  where
    clear : (m o : ℕ) → parent_of (replicate m None) o ≡ None
    clear m o = elim (cases_lt o m) [
      | inl below ↦ get_or-replicate m o None None below
      | inr past ↦ get_or_past (replicate m None) o None (omega (arith, length-replicate m (let none : Option ℕ = None in none)))
    ]

-- one more directory
pub namers-more : (p : Parts) (n : ℕ) (old new : List (Option ℕ)) → AreNamers p n old → GivesParents old (named_at p n) n new → AreNamers p (n + 1) new
namers-more p n old new are sets = record {
  named = λ o dir is. elim (sets.from o dir is) [
    | inl here ↦ (omega (arith, here.0), subst (λ d. 1 ≤ times o (named_at p d)) (sym here.0) here.1)
    | inr before ↦ let was = are.named o dir before in (omega (arith, was.0), was.1)
  ];
  none = λ o dir there before is. elim (cases_eq dir n) [
    | inl same ↦ ap (λ d. times o (named_at p d)) same ∙ (sets.none o is).1 (omega (arith, there, sets.count))
    | inr other ↦ are.none o dir (omega (arith, there, sets.count)) (omega (arith, before, other)) (sets.none o is).0
  ];
}

-- Parents put down list after list, and those of a tree.
use Rattle.std.proofs.Common.{◌≡◌, ◌≢◌, ℕ, ◌+◌, ◌<◌, ◌≤◌, ◌⊎◌, List, [], ◌∷◌, ◌++◌, length, take, drop, get_or, set, map, Bool, false, Option, None, Some, slice_get, refl, sym, ap, ◌∙◌, subst, inl, inr, arith}
use Rattle.std.specs.Prelude.{replicate}
use Rattle.std.proofs.lemmas.Bool.{cases_eq, cases_lt}
use Rattle.std.proofs.lemmas.List.{append-nil, drop_all, take_more, take_all, length-set, get_or-set_same, get_or-set_other, get_or-replicate, get_or_past, length-replicate, length-map, set_past}
use Rattle.ds_tree.specs.WellFormed.{Names}
use Rattle.ds_image_parts.specs.Listings.{named_by, lists_by}
use Rattle.ds_image_parts.specs.declared.listings.Listed.TheVariants as listed
use Rattle.ds_image.specs.ListParents.{SetsParents, AreParentsOf}
use Rattle.ds_image_parts.specs.Objects.{tree_of, is_used}
use Rattle.ds_image_tables.specs.Owns.{Owns, IsAt, list_of}
use Rattle.ds_image_tables.specs.Parents.{parent_of}
use Rattle.ds_image_parts.specs.Parts.{Parts}
use Rattle.ds_image.specs.Rooted.{named_bits}
use Rattle.ds_image.specs.Sound.{IsSound}
use Rattle.ds_image_tables.proofs.Parenthood.TreeParents.{AreParentsIn}
use Rattle.ds_image_tables.proofs.Spelling.Places.{at-append, at-append_left, at-append_right, at-single, marked-within}
use Rattle.ds_image.proofs.FileTrees.TreeParts.{entry-from_list, list-from_name, name-from_entry}

pub sets-none : (old : List (Option ℕ)) (dir : ℕ) → SetsParents old [] dir old
sets-none old dir = record {
  count = refl;
  here = λ i o at within. absurd (cc);
  kept = λ o other. refl;
  from = λ o parent is. inr is;
}

module _ (old : List (Option ℕ)) (named : List ℕ) (dir n x : ℕ) (new : List (Option ℕ)) (within : n < length named) (read : x ≡ get_or named n 0) (sets : SetsParents old (take n named) dir new) where
  more : take (n + 1) named ≡ take n named ++ x ∷ []
  more = take_more named n 0 within ∙ ap (λ y. take n named ++ y ∷ []) (sym read)

  last-at : slice_get (take (n + 1) named) (length (take n named) + 0) ≡ Some x
  last-at = ap (λ l. slice_get l (length (take n named) + 0)) more ∙ at-append_right (take n named) (x ∷ []) 0 x refl

  front-at : (i o : ℕ) → slice_get (take n named) i ≡ Some o → slice_get (take (n + 1) named) i ≡ Some o
  front-at i o at = ap (λ l. slice_get l i) more ∙ at-append_left (take n named) (x ∷ []) i o at

  -- the object x gets the parent, where it is there
  set-at : (o : ℕ) → o < length old → o ≡ x → parent_of (set new x (Some dir)) o ≡ Some dir
  set-at o there same = ap (parent_of (set new x (Some dir))) same ∙ get_or-set_same new x (Some dir) None (omega (arith, there, same, sets.count))

  here-more : (i o : ℕ) → slice_get (take (n + 1) named) i ≡ Some o → o < length old → parent_of (set new x (Some dir)) o ≡ Some dir
  here-more i o at there = elim (cases_eq o x) [
    | inl same ↦ set-at o there same
    | inr other ↦ elim (at-append (take n named) (x ∷ []) i o (ap (λ l. slice_get l i) (sym more) ∙ at)) [
      | inl front ↦ get_or-set_other new x o (Some dir) None other ∙ sets.here i o front there
      | inr back ↦ absurd (other (at-single x back.0 o back.2).1)
    ]
  ]

  from-more : (o parent : ℕ) → parent_of (set new x (Some dir)) o ≡ Some parent
      → ((parent ≡ dir) × ((i : ℕ) × (slice_get (take (n + 1) named) i ≡ Some o))) ⊎ (parent_of old o ≡ Some parent)
  from-more o parent is = elim (cases_eq o x) [
    | inl same ↦ elim (cases_lt x (length new)) [
      | inl there ↦
          let set_there : Some dir ≡ Some parent = sym (get_or-set_same new x (Some dir) None there) ∙ ap (parent_of (set new x (Some dir))) (sym same) ∙ is in
          let parent_is : parent ≡ dir = cc in
          inl (parent_is, (length (take n named) + 0, last-at ∙ ap Some (sym same)))
      | inr past ↦
          let nothing : None ≡ Some parent = sym (get_or_past (set new x (Some dir)) o None (omega (arith, length-set new x (Some dir), past, same))) ∙ is in
          absurd (cc)
    ]
    | inr other ↦ elim (sets.from o parent (sym (get_or-set_other new x o (Some dir) None other) ∙ is)) [
      | inl set_before ↦ inl (set_before.0, (set_before.1.0, front-at set_before.1.0 o set_before.1.1))
      | inr before ↦ inr before
    ]
  ]

  pub sets-more : SetsParents old (take (n + 1) named) dir (set new x (Some dir))
  sets-more = record {
    count = length-set new x (Some dir) ∙ sets.count;
    here = here-more;
    kept = λ o nowhere.
        let other : o ≢ x = λ same. nowhere (length (take n named) + 0) (last-at ∙ ap Some (sym same)) in
        get_or-set_other new x o (Some dir) None other ∙ sets.kept o (λ i at. nowhere i (front-at i o at));
    from = from-more;
  }

  -- an object past the last has no parent to set
  pub sets-past : length new ≤ x → SetsParents old (take (n + 1) named) dir new
  sets-past past = subst (SetsParents old (take (n + 1) named) dir) (set_past new x (Some dir) past) sets-more

pub sets-all : (old : List (Option ℕ)) (named : List ℕ) (dir n : ℕ) (new : List (Option ℕ)) → length named ≤ n
    → SetsParents old (take n named) dir new → SetsParents old named dir new
sets-all old named dir n new past sets = subst (λ l. SetsParents old l dir new) (take_all n named past) sets

-- no directory has named anything
pub parents-none : (lists : List (List ℕ)) (n : ℕ) → AreParentsOf lists 0 (replicate n None)
parents-none lists n = record {
  named = λ o dir is. let wrong : None ≡ Some dir = sym (clear n o) ∙ is in absurd (cc);
  only = λ dir i o before at there. absurd (omega arith);
}
  where
    clear : (m o : ℕ) → parent_of (replicate m None) o ≡ None
    clear m o = elim (cases_lt o m) [
      | inl below ↦ get_or-replicate m o None None below
      | inr past ↦ get_or_past (replicate m None) o None (omega (arith, length-replicate m (let none : Option ℕ = None in none)))
    ]

-- one more directory
pub parents-more : (lists : List (List ℕ)) (bits : List Bool) (n : ℕ) (old new : List (Option ℕ)) → Owns lists bits
    → AreParentsOf lists n old → SetsParents old (list_of lists n) n new
    → AreParentsOf lists (n + 1) new
parents-more lists bits n old new owns are sets = record {
  named = λ o dir is. elim (sets.from o dir is) [
    | inl here ↦ (omega (arith, here.0), (here.1.0, subst (λ d. IsAt lists d here.1.0 o) (sym here.0) here.1.1))
    | inr before ↦ let was = are.named o dir before in (omega (arith, was.0), was.1)
  ];
  only = λ dir i o before at there. elim (cases_eq dir n) [
    | inl same ↦ sets.here i o (subst (λ d. IsAt lists d i o) same at) (omega (arith, there, sets.count)) ∙ ap Some (sym same)
    | inr other ↦ sets.kept o (λ j at'. other (owns.once dir i n j o at at').0) ∙ are.only dir i o (omega (arith, before, other)) at (omega (arith, there, sets.count))
  ];
}

-- the parents are those of the tree
pub parents-in : (p : Parts) (n : ℕ) (parents : List (Option ℕ)) → IsSound p → Owns (lists_by p listed.Names) (named_bits p)
    → length p.bodies ≤ n → length parents ≡ length p.bodies
    → AreParentsOf (lists_by p listed.Names) n parents → AreParentsIn (tree_of p) parents
parents-in p n parents sound owns all count are = record {
  named = λ o dir other is.
      let was = are.named o dir is in
      let e = entry-from_list p dir was.1.0 o was.1.1 in
      (e.0.name, subst (Names (tree_of p) dir e.0.name) e.2 (name-from_entry p sound dir was.1.0 e.0 e.1));
  only = λ dir name o other names.
      let at = list-from_name p dir name o names in
      let there : o < length p.bodies = omega (arith, marked-within (named_bits p) o (owns.marked dir at.0 o at.1.3), length-set (map is_used p.bodies) 0 false, length-map p.bodies is_used) in
      let dir_there : dir < length p.bodies = elim (cases_lt dir (length p.bodies)) [
        | inl below ↦ below
        | inr past ↦
            let none : list_of (lists_by p listed.Names) dir ≡ [] = get_or_past (lists_by p listed.Names) dir [] (omega (arith, length-map p.bodies (named_by p), past)) in
            let wrong : slice_get [] at.0 ≡ Some o = ap (λ l. slice_get l at.0) (sym none) ∙ at.1.3 in
            absurd (cc)
      ] in
      are.only dir at.0 o (omega (arith, dir_there, all)) at.1.3 (omega (arith, there, count));
}

-- a list that is written in the place of one as long
pub written-all : {X : Type 0} (n : ℕ) (new items : List X) → n ≡ length items → length new ≡ length items
    → take n (new ++ drop (length new) items) ≡ new
written-all n new items len same =
    ap (λ rest. take n (new ++ rest)) (drop_all (length new) items (omega (arith, same))) ∙ ap (take n) (append-nil new) ∙ take_all n new (omega (arith, len, same))

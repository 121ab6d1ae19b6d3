-- Entries by name, with one entry more or less.
use Rattle.std.proofs.Common.{◌≡◌, ℕ, ◌+◌, ◌<◌, Bool, true, false, cond, List, [], ◌∷◌, ◌++◌, length, map, Option, Some, None, refl, sym, ap, ◌∙◌, inl, inr, arith}
use Rattle.std.specs.Prelude.{bytes_eq, is_some}
use Rattle.std.specs.Cmp.Lexicographic.{slice_cmp, nat_list_eq_equiv, nat_list_cmp_total}
use Rattle.std.specs.FinMap as maps
use Rattle.std.specs.List.{AllByRecursion}
use Rattle.std.specs.List.Sorted.{IsPermutation}
use Rattle.std.specs.Ordering.{nat_cmp, is_eq}
use Rattle.std.proofs.lemmas.Bool.{cases_Bool}
use Rattle.std.proofs.lemmas.List.Sorted.{IsPermutation-map, IsPermutation-sym}
use Rattle.std.proofs.lemmas.Map.Keys.{IsDistinct-cons, IsDistinct-tail, IsDistinct-head, IsDistinct-IsPermutation}
use Rattle.std.proofs.lemmas.Map.Text.{is_eq-slice_cmp}
use Rattle.std.proofs.lemmas.Slice.Eq.{bytes_eq-Decides}
use Rattle.ds_dir.specs.declared.sub_block.Entry.{Entry}
use Rattle.ds_tree.specs.Nodes.{Entries}
use Rattle.ds_image.proofs.FileTrees.EntryNames.{pair_of, pairs, get-entries}
use Rattle.ds_image.specs.SoundObjects.{AreNamesApart}
use Rattle.ds_plan_laws_new.proofs.Puts.{put-mapped, put-permutation}
use Rattle.ds_plan_laws_new.specs.Puts.{IsPut}

-- the entries as object numbers by name
abbrev pub by_name : List Entry → Entries
by_name es = maps.from_entries (pairs es)

abbrev pub find : List ℕ → List (List ℕ × ℕ) → Option ℕ
find = maps.find (slice_cmp nat_cmp)

abbrev pub same_name : List ℕ → List ℕ → Bool
same_name q name = is_eq (slice_cmp nat_cmp q name)

name-same : (q a : List ℕ) → same_name q a ≡ true → q ≡ a
name-same q a same = (bytes_eq-Decides q a).0 (sym (is_eq-slice_cmp q a) ∙ same)

-- Finding a name where one pair more is in the middle

find-front : (q : List ℕ) (front back : List (List ℕ × ℕ)) → find q (front ++ back) ≡ None → find q front ≡ None
find-front q [] back none = refl
find-front q (a ∷ front) back none = elim (cases_Bool (same_name q a.0)) [
  | inl here ↦ let wrong : Some a.1 ≡ None = sym (ap (λ b. cond b (Some a.1) (find q (front ++ back))) here) ∙ none in absurd (cc)
  | inr other ↦
      ap (λ b. cond b (Some a.1) (find q front)) other
      ∙ find-front q front back (sym (ap (λ b. cond b (Some a.1) (find q (front ++ back))) other) ∙ none)
]

find-here : (q : List ℕ) (v : ℕ) (front back : List (List ℕ × ℕ)) → same_name q q ≡ true → find q front ≡ None → find q (front ++ (q, v) ∷ back) ≡ Some v
find-here q v [] back same none = ap (λ b. cond b (Some v) (find q back)) same
find-here q v (a ∷ front) back same none = elim (cases_Bool (same_name q a.0)) [
  | inl here ↦ let wrong : Some a.1 ≡ None = sym (ap (λ b. cond b (Some a.1) (find q front)) here) ∙ none in absurd (cc)
  | inr other ↦
      ap (λ b. cond b (Some a.1) (find q (front ++ (q, v) ∷ back))) other
      ∙ find-here q v front back same (sym (ap (λ b. cond b (Some a.1) (find q front)) other) ∙ none)
]

find-past : (q k : List ℕ) (v : ℕ) (front back : List (List ℕ × ℕ)) → same_name q k ≡ false → find q (front ++ (k, v) ∷ back) ≡ find q (front ++ back)
find-past q k v [] back other = ap (λ b. cond b (Some v) (find q back)) other
find-past q k v (a ∷ front) back other = ap (cond (same_name q a.0) (Some a.1)) (find-past q k v front back other)

same-self : (q : List ℕ) → same_name q q ≡ true
same-self q = is_eq-slice_cmp q q ∙ nat_list_eq_equiv.refl q

-- Maps of entries

same-entries : (a b : Entries) → ((q : List ℕ) → maps.get a q ≡ maps.get b q) → a ≡ b
same-entries a b = maps.same_map nat_list_cmp_total (maps.slice_cmp-IsAntisymmetric maps.nat_cmp-IsAntisymmetric) a b

-- to put in an entry of a new name is to insert it
pub by_name-put : (e : Entry) (less more : List Entry) → IsPut e less more → maps.get (by_name less) e.name ≡ None
    → by_name more ≡ maps.insert (by_name less) e.name e.key.object
by_name-put e less more put absent = same-entries (by_name more) (maps.insert (by_name less) e.name e.key.object) each
  where
    mapped : IsPut (pair_of e) (pairs less) (pairs more)
    mapped = put-mapped pair_of e less more put

    none : find e.name (mapped.front ++ mapped.back) ≡ None
    none = ap (find e.name) (sym mapped.without) ∙ sym (get-entries less e.name) ∙ absent

    found : (q : List ℕ) → find q (mapped.front ++ pair_of e ∷ mapped.back) ≡ cond (same_name q e.name) (Some e.key.object) (find q (mapped.front ++ mapped.back))
    found q = elim (cases_Bool (same_name q e.name)) [
      | inl here ↦
          let same : q ≡ e.name = name-same q e.name here in
          ap (λ k. find k (mapped.front ++ pair_of e ∷ mapped.back)) same
          ∙ find-here e.name e.key.object mapped.front mapped.back (same-self e.name) (find-front e.name mapped.front mapped.back none)
          ∙ ap (λ b. cond b (Some e.key.object) (find q (mapped.front ++ mapped.back))) (sym here)
      | inr other ↦
          find-past q e.name e.key.object mapped.front mapped.back other
          ∙ ap (λ b. cond b (Some e.key.object) (find q (mapped.front ++ mapped.back))) (sym other)
    ]

    each : (q : List ℕ) → maps.get (by_name more) q ≡ maps.get (maps.insert (by_name less) e.name e.key.object) q
    each q =
        get-entries more q ∙ ap (find q) mapped.put_in ∙ found q
        ∙ ap (λ l. cond (same_name q e.name) (Some e.key.object) (find q l)) (sym mapped.without)
        ∙ ap (cond (same_name q e.name) (Some e.key.object)) (sym (get-entries less q))
        ∙ sym (maps.get-insert nat_list_cmp_total (by_name less) e.name e.key.object q)

-- Names that differ

apart-from_none : (q : List ℕ) (es : List Entry) → find q (pairs es) ≡ None → AllByRecursion (λ y. bytes_eq q y ≡ false) (map (λ (e : Entry). e.name) es)
apart-from_none q [] none = tt
apart-from_none q (a ∷ es) none = elim (cases_Bool (same_name q a.name)) [
  | inl here ↦ let wrong : Some a.key.object ≡ None = sym (ap (λ b. cond b (Some a.key.object) (find q (pairs es))) here) ∙ none in absurd (cc)
  | inr other ↦ (
    sym (is_eq-slice_cmp q a.name) ∙ other,
    apart-from_none q es (sym (ap (λ b. cond b (Some a.key.object) (find q (pairs es))) other) ∙ none),
  )
]

none-from_apart : (q : List ℕ) (es : List Entry) → AllByRecursion (λ y. bytes_eq q y ≡ false) (map (λ (e : Entry). e.name) es) → find q (pairs es) ≡ None
none-from_apart q [] apart = refl
none-from_apart q (a ∷ es) apart =
    ap (λ b. cond b (Some a.key.object) (find q (pairs es))) (is_eq-slice_cmp q a.name ∙ apart.0) ∙ none-from_apart q es apart.1

names-moved : (es fs : List Entry) → IsPermutation es fs → AreNamesApart es → AreNamesApart fs
names-moved es fs moved apart =
    IsDistinct-IsPermutation bytes_eq (λ x y. nat_list_eq_equiv.symm x y) (map (λ (e : Entry). e.name) es) (map (λ (e : Entry). e.name) fs)
    (IsPermutation-map (λ (e : Entry). e.name) es fs moved) apart

-- with an entry of a new name names still differ
pub apart-put : (e : Entry) (less more : List Entry) → IsPut e less more → maps.get (by_name less) e.name ≡ None → AreNamesApart less → AreNamesApart more
apart-put e less more put absent apart =
    names-moved (e ∷ less) more (IsPermutation-sym more (e ∷ less) (put-permutation e less more put))
    (IsDistinct-cons bytes_eq e.name (map (λ (e : Entry). e.name) less) (apart-from_none e.name less (sym (get-entries less e.name) ∙ absent)) apart)

-- and without an entry they still do, and its name is no other's
pub apart-taken : (e : Entry) (less more : List Entry) → IsPut e less more → AreNamesApart more → AreNamesApart less
apart-taken e less more put apart =
    IsDistinct-tail bytes_eq e.name (map (λ (e : Entry). e.name) less) (names-moved more (e ∷ less) (put-permutation e less more put) apart)

pub absent-taken : (e : Entry) (less more : List Entry) → IsPut e less more → AreNamesApart more → maps.get (by_name less) e.name ≡ None
absent-taken e less more put apart =
    get-entries less e.name
    ∙ none-from_apart e.name less (IsDistinct-head bytes_eq e.name (map (λ (e : Entry). e.name) less) (names-moved more (e ∷ less) (put-permutation e less more put) apart))

-- to take out an entry is to remove its name
pub by_name-taken : (e : Entry) (less more : List Entry) → IsPut e less more → AreNamesApart more → by_name less ≡ maps.remove (by_name more) e.name
by_name-taken e less more put apart = same-entries (by_name less) (maps.remove (by_name more) e.name) each
  where
    absent : maps.get (by_name less) e.name ≡ None
    absent = absent-taken e less more put apart

    pick : (q : List ℕ) → maps.get (by_name less) q ≡ cond (same_name q e.name) None (maps.get (maps.insert (by_name less) e.name e.key.object) q)
    pick q = elim (cases_Bool (same_name q e.name)) [
      | inl here ↦
          ap (maps.get (by_name less)) (name-same q e.name here) ∙ absent
          ∙ ap (λ b. cond b None (maps.get (maps.insert (by_name less) e.name e.key.object) q)) (sym here)
      | inr other ↦
          ap (λ b. cond b (Some e.key.object) (maps.get (by_name less) q)) (sym other)
          ∙ sym (maps.get-insert nat_list_cmp_total (by_name less) e.name e.key.object q)
          ∙ ap (λ b. cond b None (maps.get (maps.insert (by_name less) e.name e.key.object) q)) (sym other)
    ]

    each : (q : List ℕ) → maps.get (by_name less) q ≡ maps.get (maps.remove (by_name more) e.name) q
    each q =
        pick q ∙ ap (λ (m : Entries). cond (same_name q e.name) None (maps.get m q)) (sym (by_name-put e less more put absent))
        ∙ sym (maps.get-remove nat_list_cmp_total (by_name more) e.name q)

-- How many entries there are

-- no more than the list has
pub by_name-most : (es : List Entry) → maps.len (by_name es) < length es + 1
by_name-most [] = omega (arith, maps.len-empty (slice_cmp nat_cmp) ℕ)
by_name-most (e ∷ es) =
    let put = maps.len-insert nat_list_cmp_total (by_name es) e.name e.key.object in
    elim (cases_Bool (maps.contains_key (by_name es) e.name)) [
      | inl known ↦ omega (arith, put ∙ ap (λ b. cond b (maps.len (by_name es)) (maps.len (by_name es) + 1)) known, by_name-most es)
      | inr new ↦ omega (arith, put ∙ ap (λ b. cond b (maps.len (by_name es)) (maps.len (by_name es) + 1)) new, by_name-most es)
    ]

-- where names differ just as many
pub by_name-length : (es : List Entry) → AreNamesApart es → maps.len (by_name es) ≡ length es
by_name-length [] apart = maps.len-empty (slice_cmp nat_cmp) ℕ
by_name-length (e ∷ es) apart =
    let names = map (λ (x : Entry). x.name) es in
    let put = maps.len-insert nat_list_cmp_total (by_name es) e.name e.key.object in
    let new : maps.contains_key (by_name es) e.name ≡ false =
    ap is_some (get-entries es e.name ∙ none-from_apart e.name es (IsDistinct-head bytes_eq e.name names apart)) in
    omega (arith, put ∙ ap (λ b. cond b (maps.len (by_name es)) (maps.len (by_name es) + 1)) new, by_name-length es (IsDistinct-tail bytes_eq e.name names apart))

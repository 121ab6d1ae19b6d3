-- Entries of a directory by name.
use Rattle.std.proofs.Common.{◌≡◌, ℕ, zero, suc, ◌<◌, true, false, cond, List, [], ◌∷◌, length, take, map, get_or, Option, None, Some, slice_get, refl, sym, ap, ◌∙◌, inl, inr, arith}
use Rattle.std.specs.Prelude.{bytes_eq}
use Rattle.std.specs.Cmp.Lexicographic.{slice_cmp, nat_list_eq_equiv, nat_list_cmp_total}
use Rattle.std.specs.FinMap as maps
use Rattle.std.specs.Ordering.{nat_cmp, is_eq}
use Rattle.std.proofs.lemmas.Bool.{false≢true, cases_Bool, cases_lt}
use Rattle.std.proofs.lemmas.List.{get_or-map, length-map, get_or-take, length-take-le}
use Rattle.std.proofs.lemmas.Map.Keys.{IsDistinct-tail, apart_from_distinct}
use Rattle.std.proofs.lemmas.Map.Text.{is_eq-slice_cmp}
use Rattle.std.proofs.lemmas.Option.{slice_get_within, get_or_from_slice_get, slice_get-get_or}
use Rattle.std.proofs.lemmas.Slice.Eq.{bytes_eq-Decides}
use Rattle.ds_dir.specs.declared.sub_block.Entry.{Entry}
use Rattle.ds_image.specs.SoundObjects.{AreNamesApart}

-- an entry as a name and an object
abbrev pub pair_of : Entry → List ℕ × ℕ
pair_of e = (e.name, e.key.object)

abbrev pub pairs : List Entry → List (List ℕ × ℕ)
pairs = map pair_of

same_name : (q a : List ℕ) → is_eq (slice_cmp nat_cmp q a) ≡ true → q ≡ a
same_name q a same = (bytes_eq-Decides q a).0 (sym (is_eq-slice_cmp q a) ∙ same)

-- two entries of one name are one
pub apart-index : (es : List Entry) → AreNamesApart es → (i j : ℕ) (e f : Entry) → slice_get es i ≡ Some e → slice_get es j ≡ Some f
    → e.name ≡ f.name → i ≡ j
apart-index es apart i j e f at at' same = elim (cases_lt i j) [
  | inl below ↦ absurd (differ i j e f at at' same below)
  | inr past ↦ elim (cases_lt j i) [
    | inl above ↦ absurd (differ j i f e at' at (sym same) above)
    | inr equal ↦ omega arith
  ]
]
  where
    name_at : (k : ℕ) (x : Entry) → slice_get es k ≡ Some x → get_or (map (λ (y : Entry). y.name) es) k [] ≡ x.name
    name_at k x at = get_or-map (λ (y : Entry). y.name) es k x [] (slice_get_within es k x at) ∙ ap (λ (y : Entry). y.name) (get_or_from_slice_get es k x x at)

    differ : (k m : ℕ) (x y : Entry) → slice_get es k ≡ Some x → slice_get es m ≡ Some y → x.name ≡ y.name → k < m → ⊥
    differ k m x y one two alike below =
        let names = map (λ (z : Entry). z.name) es in
        let within : m < length names = omega (arith, slice_get_within es m y two, length-map es (λ (z : Entry). z.name)) in
        let apart' : bytes_eq (get_or names k []) (get_or names m []) ≡ false = apart_from_distinct bytes_eq names k m [] apart below within in
        let equal : get_or names k [] ≡ get_or names m [] = name_at k x one ∙ alike ∙ sym (name_at m y two) in
        false≢true (sym apart' ∙ ap (λ n. bytes_eq n (get_or names m [])) equal ∙ nat_list_eq_equiv.refl (get_or names m []))

-- what is found by a name is the object of an entry of that name
pub find-some : (es : List Entry) (q : List ℕ) (x : ℕ) → maps.find (slice_cmp nat_cmp) q (pairs es) ≡ Some x
    → (i : ℕ) × ((e : Entry) × (slice_get es i ≡ Some e) × (e.name ≡ q) × (e.key.object ≡ x))
find-some [] q x found = absurd (cc)
find-some (a ∷ es) q x found = elim (cases_Bool (is_eq (slice_cmp nat_cmp q a.name))) [
  | inl here ↦
      let is : Some a.key.object ≡ Some x = ap (λ b. cond b (Some a.key.object) (maps.find (slice_cmp nat_cmp) q (pairs es))) (sym here) ∙ found in
      let object : a.key.object ≡ x = cc in
      (0, (a, refl, sym (same_name q a.name here), object))
  | inr other ↦
      let rest = find-some es q x (ap (λ b. cond b (Some a.key.object) (maps.find (slice_cmp nat_cmp) q (pairs es))) (sym other) ∙ found) in
      (suc rest.0, (rest.1.0, rest.1.1, rest.1.2, rest.1.3))
]

-- an entry is found by its name
pub find-at : (es : List Entry) → AreNamesApart es → (i : ℕ) (e : Entry) → slice_get es i ≡ Some e
    → maps.find (slice_cmp nat_cmp) e.name (pairs es) ≡ Some e.key.object
find-at [] apart i e at = absurd (cc)
find-at (a ∷ es) apart zero e at =
    let same : a ≡ e = cc in
    let here : is_eq (slice_cmp nat_cmp e.name a.name) ≡ true =
    is_eq-slice_cmp e.name a.name ∙ ap (λ (y : Entry). bytes_eq e.name y.name) same ∙ nat_list_eq_equiv.refl e.name in
    ap (λ b. cond b (Some a.key.object) (maps.find (slice_cmp nat_cmp) e.name (pairs es))) here ∙ ap (λ (y : Entry). Some y.key.object) same
find-at (a ∷ es) apart (suc i) e at =
    let other : is_eq (slice_cmp nat_cmp e.name a.name) ≡ false = elim (cases_Bool (is_eq (slice_cmp nat_cmp e.name a.name))) [
      | inl here ↦ let wrong : suc i ≡ 0 = apart-index (a ∷ es) apart (suc i) 0 e a at refl (same_name e.name a.name here) in absurd (omega (arith, wrong))
      | inr other ↦ other
    ] in
    ap (λ b. cond b (Some a.key.object) (maps.find (slice_cmp nat_cmp) e.name (pairs es))) other
    ∙ find-at es (IsDistinct-tail bytes_eq a.name (map (λ (y : Entry). y.name) es) apart) i e at

-- the name of an entry isn't found among the entries before it
pub find-new : (es : List Entry) → AreNamesApart es → (n : ℕ) (e : Entry) → slice_get es n ≡ Some e
    → maps.find (slice_cmp nat_cmp) e.name (pairs (take n es)) ≡ None
find-new es apart n e at = by (maps.find (slice_cmp nat_cmp) e.name (pairs (take n es))) refl
  where
    by : (r : Option ℕ) → maps.find (slice_cmp nat_cmp) e.name (pairs (take n es)) ≡ r → r ≡ None
    by None is = refl
    by (Some x) is =
        let was = find-some (take n es) e.name x is in
        let before : was.0 < n = omega (arith, slice_get_within (take n es) was.0 was.1.0 was.1.1, length-take-le n es (omega (arith, slice_get_within es n e at))) in
        let there : slice_get es was.0 ≡ Some was.1.0 =
        slice_get-get_or es was.0 e (omega (arith, before, slice_get_within es n e at))
        ∙ ap Some (sym (get_or-take n es was.0 e before) ∙ get_or_from_slice_get (take n es) was.0 was.1.0 e was.1.1) in
        let same : was.0 ≡ n = apart-index es apart was.0 n was.1.0 e there at was.1.2 in
        absurd (omega (arith, same, before))

-- entries as a map
pub get-entries : (es : List Entry) (q : List ℕ)
    → maps.get (maps.from_entries {R = slice_cmp nat_cmp} (pairs es)) q ≡ maps.find (slice_cmp nat_cmp) q (pairs es)
get-entries es q = maps.get-from_entries nat_list_cmp_total (pairs es) q

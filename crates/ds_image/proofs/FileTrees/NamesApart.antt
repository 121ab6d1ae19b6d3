-- Names that differ, and a set of those that were met.
use Rattle.std.proofs.Common.{◌≡◌, ℕ, ◌+◌, ◌<◌, Bool, true, false, cond, ◌||◌, List, [], ◌∷◌, ◌++◌, length, take, map, get_or, refl, sym, ap, ◌∙◌, subst, suc, inl, inr, arith}
use Rattle.std.specs.Prelude.{bytes_eq}
use Rattle.std.specs.Cmp.Lexicographic.{slice_cmp, nat_list_eq_equiv}
use Rattle.std.specs.List.{IsDistinct, list_any}
use Rattle.std.specs.Ordering.{nat_cmp, is_eq}
use Rattle.std.proofs.lemmas.Bool.{false≢true, cases_Bool}
use Rattle.std.proofs.lemmas.List.{map_more, get_or-map, get_or-take, length-take-le, length-map}
use Rattle.std.proofs.lemmas.List.Folds.{list_any-append}
use Rattle.std.proofs.lemmas.Map.Keys.{IsDistinct-push, apart_from_distinct}
use Rattle.std.proofs.lemmas.Map.Text.{is_eq-slice_cmp}
use Rattle.ds_dir.specs.declared.sub_block.Entry.{Entry}
use Rattle.ds_image.specs.SoundObjects.{AreNamesApart}

abbrev names_of : List Entry → List (List ℕ)
names_of = map (λ (e : Entry). e.name)

-- no names
pub apart-none : AreNamesApart []
unfolding IsDistinct
apart-none = tt

or_test : (a b : Bool) → (a || b) ≡ cond b true a
or_test true true = refl
or_test true false = refl
or_test false true = refl
or_test false false = refl

or_false : (b : Bool) → (b || false) ≡ b
or_false true = refl
or_false false = refl

names-more : (entries : List Entry) (n : ℕ) (e : Entry) → n < length entries → e ≡ get_or entries n e
    → names_of (take (n + 1) entries) ≡ names_of (take n entries) ++ e.name ∷ []
names-more entries n e within is = map_more (λ (x : Entry). x.name) entries n e within ∙ ap (λ (x : Entry). names_of (take n entries) ++ x.name ∷ []) (sym is)

-- a new name differs from the others
pub apart-more : (entries : List Entry) (n : ℕ) (e : Entry) → n < length entries → e ≡ get_or entries n e
    → list_any (bytes_eq e.name) (names_of (take n entries)) ≡ false
    → AreNamesApart (take n entries) → AreNamesApart (take (n + 1) entries)
apart-more entries n e within is new apart =
    subst (IsDistinct bytes_eq) (sym (names-more entries n e within is)) (IsDistinct-push nat_list_eq_equiv (names_of (take n entries)) e.name apart new)

-- and is known with them
pub known-more : (entries : List Entry) (n : ℕ) (e : Entry) (old new : List ℕ → Bool) → n < length entries → e ≡ get_or entries n e
    → ((q : List ℕ) → old q ≡ list_any (bytes_eq q) (names_of (take n entries)))
    → ((q : List ℕ) → new q ≡ cond (is_eq (slice_cmp nat_cmp e.name q)) true (old q))
    → (q : List ℕ) → new q ≡ list_any (bytes_eq q) (names_of (take (n + 1) entries))
known-more entries n e old new within is known updated q =
    updated q
    ∙ ap (λ b. cond b true (old q)) (is_eq-slice_cmp e.name q ∙ nat_list_eq_equiv.symm e.name q)
    ∙ ap (λ b. cond (bytes_eq q e.name) true b) (known q)
    ∙ sym (or_test (list_any (bytes_eq q) (names_of (take n entries))) (bytes_eq q e.name))
    ∙ ap (λ b. list_any (bytes_eq q) (names_of (take n entries)) || b) (sym (or_false (bytes_eq q e.name)))
    ∙ sym (list_any-append (bytes_eq q) (names_of (take n entries)) (e.name ∷ []))
    ∙ ap (list_any (bytes_eq q)) (sym (names-more entries n e within is))

any-place : (test : List ℕ → Bool) (xs : List (List ℕ)) → list_any test xs ≡ true
    → (j : ℕ) × (j < length xs) × (test (get_or xs j []) ≡ true)
any-place test [] found = absurd (false≢true found)
any-place test (x ∷ xs) found = elim (cases_Bool (test x)) [
  | inl is ↦ (0, omega arith, is)
  | inr other ↦ let at = any-place test xs (ap (λ b. b || list_any test xs) (sym other) ∙ found) in (suc at.0, omega (arith, at.1), at.2)
]

-- a name that is known stands twice
pub apart-not : (entries : List Entry) (n : ℕ) (e : Entry) → n < length entries → e ≡ get_or entries n e
    → list_any (bytes_eq e.name) (names_of (take n entries)) ≡ true → ¬ AreNamesApart entries
apart-not entries n e within is known apart =
    let at = any-place (bytes_eq e.name) (names_of (take n entries)) known in
    let before : at.0 < n = omega (arith, at.1, length-map (take n entries) (λ (x : Entry). x.name), length-take-le n entries (omega arith)) in
    let here : get_or (names_of entries) n [] ≡ e.name = get_or-map (λ (x : Entry). x.name) entries n e [] within ∙ ap (λ (x : Entry). x.name) (sym is) in
    let there : get_or (names_of (take n entries)) at.0 [] ≡ get_or (names_of entries) at.0 [] =
    get_or-map (λ (x : Entry). x.name) (take n entries) at.0 e [] (omega (arith, at.1, length-map (take n entries) (λ (x : Entry). x.name)))
    ∙ ap (λ (x : Entry). x.name) (get_or-take n entries at.0 e before) ∙ sym (get_or-map (λ (x : Entry). x.name) entries at.0 e [] (omega arith)) in
    let differ : bytes_eq (get_or (names_of entries) at.0 []) (get_or (names_of entries) n []) ≡ false =
    apart_from_distinct bytes_eq (names_of entries) at.0 n [] apart before (omega (arith, length-map entries (λ (x : Entry). x.name))) in
    let alike : bytes_eq (get_or (names_of entries) at.0 []) (get_or (names_of entries) n []) ≡ true =
    ap (bytes_eq (get_or (names_of entries) at.0 [])) here ∙ nat_list_eq_equiv.symm (get_or (names_of entries) at.0 []) e.name ∙ ap (bytes_eq e.name) (sym there) ∙ at.2 in
    false≢true (sym differ ∙ alike)

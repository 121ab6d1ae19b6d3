-- Names in byte order that are put one by one, and those of which only the first stay.
use Rattle.std.proofs.Common.{◌≡◌, ℕ, zero, suc, ◌+◌, ◌<◌, ◌≤◌, ◌&&◌, Bool, true, false, cond, List, [], ◌∷◌, ◌++◌, length, take, drop, get_or, drop-cons, Option, None, Some, inl, inr, refl, sym, ap, subst, ◌∙◌, arith}
use Rattle.std.specs.Prelude.{T, is_some, option_map}
use Rattle.std.specs.List.{insert}
use Rattle.std.specs.Cmp.Lexicographic.{nat_list_cmp_total}
use Rattle.std.specs.FinMap as maps
use Rattle.std.specs.Ordering.{is_eq, is_lt, eq_by_cmp}
use Rattle.std.proofs.lemmas.Bool.{cases_Bool}
use Rattle.std.proofs.lemmas.List.{drop_all}
use Rattle.std.specs.FinMap.Entries.{put, find, is_sorted, below_all, by_order, find_tied}
use Rattle.std.specs.declared.cmp.Ordering.{Ordering}
use Rattle.std.specs.declared.cmp.Ordering.TheVariants.{Less, Equal, Greater}
use Rattle.ds_base.specs.declared.names.Key.{Key}
use Rattle.ds_plan_dirs.specs.Pages.{name_cmp, place_in, place_by, put_by, put_new}

both-first : (a b : Bool) → T (a && b) → T a
both-first true b is = tt
both-first false b is = absurd is

both-second : (a b : Bool) → T (a && b) → T b
both-second true b is = is
both-second false b is = absurd is

is-less : (o : Ordering) → T (is_lt o) → o ≡ Less
is-less Less is = refl
is-less Equal is = absurd is
is-less Greater is = absurd is

pub same_names : maps.IsAntisymmetric name_cmp
same_names = maps.slice_cmp-IsAntisymmetric maps.nat_cmp-IsAntisymmetric

-- a name below all others isn't among them
absent : (k y : List ℕ) (es : List (List ℕ × Key)) → name_cmp k y ≡ Less → T (below_all name_cmp y es) → find name_cmp k es ≡ None
absent k y [] less below = refl
absent k y (e ∷ es) less below =
    let next : name_cmp k e.0 ≡ Less = nat_list_cmp_total.trans k y e.0 less (is-less (name_cmp y e.0) (both-first (is_lt (name_cmp y e.0)) (below_all name_cmp y es) below)) in
    ap (λ (o : Ordering). cond (is_eq o) (Some e.1) (find name_cmp k es)) next
    ∙ absent k y es less (both-second (is_lt (name_cmp y e.0)) (below_all name_cmp y es) below)

under : (b : Bool) (e : List ℕ × Key) (es fs : List (List ℕ × Key)) → e ∷ cond b es fs ≡ cond b (e ∷ es) (e ∷ fs)
under true e es fs = refl
under false e es fs = refl

-- a new name is put at its place, and one that is there changes nothing
put_new-is : (k : List ℕ) (v : Key) (es : List (List ℕ × Key)) → T (is_sorted name_cmp es)
    → put_new k v es ≡ cond (is_some (find name_cmp k es)) es (put name_cmp k v es)
put_new-is k v [] sorted = refl
put_new-is k v (e ∷ es) sorted =
    by (name_cmp k e.0) refl (put_new-is k v es (both-second (below_all name_cmp e.0 es) (is_sorted name_cmp es) sorted))
  where
    by : (o : Ordering) → name_cmp k e.0 ≡ o → put_new k v es ≡ cond (is_some (find name_cmp k es)) es (put name_cmp k v es)
        → put_by o (k, v) e es (put_new k v es) ≡ cond (is_some (cond (is_eq o) (Some e.1) (find name_cmp k es))) (e ∷ es) (by_order o ((k, v) ∷ e ∷ es) ((e.0, v) ∷ es) (e ∷ put name_cmp k v es))
    by Less is later =
        let none = absent k e.0 es is (both-first (below_all name_cmp e.0 es) (is_sorted name_cmp es) sorted) in
        ap (λ (r : Option Key). cond (is_some r) (e ∷ es) ((k, v) ∷ e ∷ es)) (sym none)
    by Equal is later = refl
    by Greater is later = ap (λ l. e ∷ l) later ∙ under (is_some (find name_cmp k es)) e es (put name_cmp k v es)

-- a name that is there already is found as before where it comes again
found_before : (es : List (List ℕ × Key)) (k q : List ℕ) (v : Key) → (find name_cmp q es ≡ None → eq_by_cmp name_cmp q k ≡ false)
    → find name_cmp q (es ++ (k, v) ∷ []) ≡ find name_cmp q es
found_before [] k q v other = ap (λ b. cond b (Some v) None) (other refl)
found_before (e ∷ es) k q v other = elim (cases_Bool (eq_by_cmp name_cmp q e.0)) [
  | inl here ↦
      ap (λ b. cond b (Some e.1) (find name_cmp q (es ++ (k, v) ∷ []))) here ∙ ap (λ b. cond b (Some e.1) (find name_cmp q es)) (sym here)
  | inr past ↦
      ap (λ (r : Option Key). cond (eq_by_cmp name_cmp q e.0) (Some e.1) r)
      (found_before es k q v (λ none. other (ap (λ b. cond b (Some e.1) (find name_cmp q es)) past ∙ none)))
]

entries_push-by : (es : List (List ℕ × Key)) (k : List ℕ) (v : Key) (r : Option Key) → find name_cmp k es ≡ r
    → maps.entries (maps.from_entries {R = name_cmp} (es ++ (k, v) ∷ [])) ≡ cond (is_some r) (maps.entries (maps.from_entries {R = name_cmp} es)) (put name_cmp k v (maps.entries (maps.from_entries {R = name_cmp} es)))
entries_push-by es k v None is =
    ap maps.entries (maps.from_entries_push nat_list_cmp_total same_names es k v is) ∙ maps.entries-insert nat_list_cmp_total (maps.from_entries es) k v
entries_push-by es k v (Some w) is =
    ap maps.entries
    (maps.same_map nat_list_cmp_total same_names (maps.from_entries (es ++ (k, v) ∷ [])) (maps.from_entries es)
    (λ q.
    maps.get-from_entries nat_list_cmp_total (es ++ (k, v) ∷ []) q
    ∙ found_before es k q v
    (λ none. elim (cases_Bool (eq_by_cmp name_cmp q k)) [
      | inl same ↦
          let tied : find name_cmp k es ≡ find name_cmp q es = find_tied name_cmp nat_list_cmp_total q k (is-equal (name_cmp q k) same) es in
          let wrong : Some w ≡ None = sym is ∙ tied ∙ none in
          absurd cc
      | inr other ↦ other
    ])
    ∙ sym (maps.get-from_entries nat_list_cmp_total es q)))
  where
    is-equal : (o : Ordering) → is_eq o ≡ true → o ≡ Equal
    is-equal Less is = absurd cc
    is-equal Equal is = refl
    is-equal Greater is = absurd cc

-- the entries of a map that is made of a list, after one more is put behind the list
pub entries_push : (es : List (List ℕ × Key)) (k : List ℕ) (v : Key)
    → maps.entries (maps.from_entries {R = name_cmp} (es ++ (k, v) ∷ [])) ≡ put_new k v (maps.entries (maps.from_entries {R = name_cmp} es))
entries_push es k v =
    let m = maps.from_entries {R = name_cmp} es in
    entries_push-by es k v (find name_cmp k es) refl
    ∙ ap (λ (r : Option Key). cond (is_some r) (maps.entries m) (put name_cmp k v (maps.entries m)))
    (sym (maps.get-from_entries nat_list_cmp_total es k) ∙ maps.get-entries m k)
    ∙ sym (put_new-is k v (maps.entries m) (maps.entries_sorted m))

-- Only the first names

take_take : {X : Type 0} (n : ℕ) (xs : List X) → take n xs ≡ take n (take n xs)
take_take zero xs = refl
take_take (suc n) [] = refl
take_take (suc n) (x ∷ xs) = ap (λ l. x ∷ l) (take_take n xs)

take_less : {X : Type 0} (n : ℕ) (xs : List X) → take n xs ≡ take n (take (suc n) xs)
take_less zero xs = refl
take_less (suc n) [] = refl
take_less (suc n) (y ∷ xs) = ap (λ l. y ∷ l) (take_less n xs)

take_under : {X : Type 0} (n : ℕ) (x : X) (xs : List X) → take n (x ∷ xs) ≡ take n (x ∷ take n xs)
take_under zero x xs = refl
take_under (suc n) x xs = ap (λ l. x ∷ l) (take_less n xs)

-- of the names after one is put, the first depend on the first before
pub take_put : (n : ℕ) (k : List ℕ) (v : Key) (es : List (List ℕ × Key)) → take n (put_new k v es) ≡ take n (put_new k v (take n es))
take_put zero k v es = refl
take_put (suc n) k v [] = refl
take_put (suc n) k v (e ∷ es) = by (name_cmp k e.0) (take_put n k v es)
  where
    by : (o : Ordering) → take n (put_new k v es) ≡ take n (put_new k v (take n es))
        → take (suc n) (put_by o (k, v) e es (put_new k v es)) ≡ take (suc n) (put_by o (k, v) e (take n es) (put_new k v (take n es)))
    by Less later = ap (λ l. (k, v) ∷ l) (take_under n e es)
    by Equal later = ap (λ l. e ∷ l) (take_take n es)
    by Greater later = ap (λ l. e ∷ l) later

-- Places

mapped-none : (r : Option ℕ) → option_map (λ i. 1 + i) r ≡ None → r ≡ None
mapped-none None is = refl
mapped-none (Some i) is = absurd cc

mapped-some : (r : Option ℕ) (i : ℕ) → option_map (λ i. 1 + i) r ≡ Some i → (j : ℕ) × (r ≡ Some j) × (i ≡ suc j)
mapped-some None i is = absurd cc
mapped-some (Some j) i is = let same : 1 + j ≡ i = cc in (j, refl, omega (arith, same))

pub put_no_place : (k : List ℕ) (v : Key) (es : List (List ℕ × Key)) → place_in es k ≡ None → put_new k v es ≡ es
put_no_place k v [] none = absurd cc
put_no_place k v (e ∷ es) none = by (name_cmp k e.0) none (λ later. put_no_place k v es later)
  where
    by : (o : Ordering) → place_by o (option_map (λ i. 1 + i) (place_in es k)) ≡ None → (place_in es k ≡ None → put_new k v es ≡ es)
        → put_by o (k, v) e es (put_new k v es) ≡ e ∷ es
    by Less is later = absurd cc
    by Equal is later = refl
    by Greater is later = ap (λ l. e ∷ l) (later (mapped-none (place_in es k) is))

pub put_at_place : (k : List ℕ) (v : Key) (es : List (List ℕ × Key)) (i : ℕ) → place_in es k ≡ Some i
    → (put_new k v es ≡ insert es i (k, v)) × (i ≤ length es)
put_at_place k v [] i is = let zeroth : 0 ≡ i = cc in (subst (λ j. ◌≡◌ {A = List (List ℕ × Key)} ((k, v) ∷ []) (insert [] j (k, v))) zeroth refl, omega (arith, zeroth))
put_at_place k v (e ∷ es) i is = by (name_cmp k e.0) is (λ j later. put_at_place k v es j later)
  where
    by : (o : Ordering) → place_by o (option_map (λ i. 1 + i) (place_in es k)) ≡ Some i
        → ((j : ℕ) → place_in es k ≡ Some j → (put_new k v es ≡ insert es j (k, v)) × (j ≤ length es))
        → (put_by o (k, v) e es (put_new k v es) ≡ insert (e ∷ es) i (k, v)) × (i ≤ length (e ∷ es))
    by Less is later = let zeroth : 0 ≡ i = cc in (subst (λ j. ◌≡◌ {A = List (List ℕ × Key)} ((k, v) ∷ e ∷ es) (insert (e ∷ es) j (k, v))) zeroth refl, omega (arith, zeroth))
    by Equal is later = absurd cc
    by Greater is later =
        let rest = mapped-some (place_in es k) i is in
        let there = later rest.0 rest.1 in
        (ap (λ l. e ∷ l) there.0 ∙ ap (λ j. insert (e ∷ es) j (k, v)) (sym rest.2), omega (arith, there.1, rest.2))

-- A place that is looked for name by name

place_step : (names : List (List ℕ × Key)) (i : ℕ) (d : List ℕ × Key) (name : List ℕ) (o : Ordering) → i < length names → name_cmp name (get_or names i d).0 ≡ o
    → place_in names name ≡ option_map (λ k. i + k) (place_in (drop i names) name)
    → place_in names name ≡ option_map (λ k. i + k) (place_by o (option_map (λ k. 1 + k) (place_in (drop (i + 1) names) name)))
place_step names i d name o within is before =
    let next : drop i names ≡ get_or names i d ∷ drop (i + 1) names = drop-cons names i d within ∙ ap (λ k. get_or names i d ∷ drop k names) (let e : suc i ≡ i + 1 = omega arith in e) in
    before ∙ ap (λ l. option_map (λ k. i + k) (place_in l name)) next
    ∙ ap (λ (r : Ordering). option_map (λ k. i + k) (place_by r (option_map (λ k. 1 + k) (place_in (drop (i + 1) names) name)))) is

pub place_less : (names : List (List ℕ × Key)) (i : ℕ) (d : List ℕ × Key) (name : List ℕ) → i < length names → name_cmp name (get_or names i d).0 ≡ Less
    → place_in names name ≡ option_map (λ k. i + k) (place_in (drop i names) name) → Some i ≡ place_in names name
place_less names i d name within is before =
    let here : i + 0 ≡ i = omega arith in
    sym (place_step names i d name Less within is before ∙ ap Some here)

pub place_equal : (names : List (List ℕ × Key)) (i : ℕ) (d : List ℕ × Key) (name : List ℕ) → i < length names → name_cmp name (get_or names i d).0 ≡ Equal
    → place_in names name ≡ option_map (λ k. i + k) (place_in (drop i names) name) → None ≡ place_in names name
place_equal names i d name within is before = sym (place_step names i d name Equal within is before)

further : (i : ℕ) (r : Option ℕ) → option_map (λ k. i + k) (option_map (λ k. 1 + k) r) ≡ option_map (λ k. (i + 1) + k) r
further i None = refl
further i (Some k) = let same : i + (1 + k) ≡ (i + 1) + k = omega arith in ap Some same

pub place_greater : (names : List (List ℕ × Key)) (i : ℕ) (d : List ℕ × Key) (name : List ℕ) → i < length names → name_cmp name (get_or names i d).0 ≡ Greater
    → place_in names name ≡ option_map (λ k. i + k) (place_in (drop i names) name)
    → place_in names name ≡ option_map (λ k. (i + 1) + k) (place_in (drop (i + 1) names) name)
place_greater names i d name within is before = place_step names i d name Greater within is before ∙ further i (place_in (drop (i + 1) names) name)

pub place_last : (names : List (List ℕ × Key)) (i : ℕ) (name : List ℕ) → length names ≤ i → i ≤ length names
    → place_in names name ≡ option_map (λ k. i + k) (place_in (drop i names) name) → Some (length names) ≡ place_in names name
place_last names i name past within before =
    let end : i + 0 ≡ length names = omega arith in
    sym (before ∙ ap (λ l. option_map (λ k. i + k) (place_in l name)) (drop_all i names past) ∙ ap Some end)

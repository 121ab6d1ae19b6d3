-- A list of entries in the order of their keys, as a map of std gives it, and the finite map that it stands for.
use Rattle.std.proofs.Common.{◌≡◌, ℕ, Bool, true, false, cond, ◌&&◌, T, List, [], ◌∷◌, map, length, refl, sym, ap, subst, ◌∙◌, ◌+◌, ◌-◌, ◌≤◌, suc, zero, ◌⊎◌, inl, inr, arith}
use Rattle.std.specs.Prelude.{Option, Some, None, slice_get, is_some}
use Rattle.std.specs.declared.cmp.Ordering.{Ordering}
use Rattle.std.specs.declared.cmp.Ordering.TheVariants.{Less, Equal, Greater}
use Rattle.std.specs.Ordering.{nat_cmp, is_lt, is_eq, eq_by_cmp}
use Rattle.std.specs.Cmp.{eq_by_cmp_equiv, tied_itself}
use Rattle.std.specs.Cmp.Lexicographic.{slice_cmp, nat_list_cmp_total}
use Rattle.std.specs.List.{AllByRecursion}
use Rattle.std.specs.List.Sorted.{IsStrictlySortedBy}
use Rattle.std.specs.Map.{lookup}
use Rattle.std.specs.BTreeMap.{is_at}
use Rattle.std.specs.BTreeMap.Range.{entries_between}
use Rattle.std.specs.declared.ops.Bound.TheVariants.{Excluded, Unbounded}
use Rattle.std.specs.List.{filter}
use Rattle.ds_tree.specs.Steps.{is_above, entries_above}
use Rattle.std.specs.FinMap as maps
use Rattle.std.specs.FinMap.Entries.{below_all}

abbrev pub cmp : List ℕ → List ℕ → Ordering
cmp = slice_cmp nat_cmp

and : (a b : Bool) → T a → T b → T (a && b)
and true b p q = q
and false b p q = p

module _ {K X : Type 0} (R : K → K → Ordering) where
  below_all-of : (x : K) (es : List (K × X)) → AllByRecursion (λ y. R x y ≡ Less) (map (λ e. e.0) es) → T (below_all R x es)
  below_all-of x [] h = tt
  below_all-of x (e ∷ es) h = and _ _ (subst (λ r. T (is_lt r)) (sym h.0) tt) (below_all-of x es h.1)

  -- keys that rise for std rise for a finite map
  pub is_sorted-of : (es : List (K × X)) → IsStrictlySortedBy R (map (λ e. e.0) es) → T (maps.is_sorted R es)
  unfolding IsStrictlySortedBy
  is_sorted-of [] h = tt
  is_sorted-of (e ∷ es) h = and _ _ (below_all-of e.0 es h.0) (is_sorted-of es h.1)

  pub find-lookup : (q : K) (es : List (K × X)) → maps.find R q es ≡ lookup (is_at (R q)) es
  find-lookup q [] = refl
  find-lookup q (e ∷ es) = ap (cond (is_eq (R q e.0)) (Some e.1)) (find-lookup q es)

abbrev Map : Type 0
Map = maps.FinMap cmp ℕ

same : maps.IsAntisymmetric cmp
same = maps.slice_cmp-IsAntisymmetric maps.nat_cmp-IsAntisymmetric

pub get-of_entries : (es : List (List ℕ × ℕ)) (q : List ℕ) → T (maps.is_sorted cmp es) → maps.get (maps.from_sorted {R = cmp} es) q ≡ lookup (is_at (cmp q)) es
get-of_entries es q sorted = maps.get-from_sorted cmp es q sorted ∙ find-lookup cmp q es

turned : (k q : List ℕ) → is_at (cmp k) q ≡ eq_by_cmp cmp q k
turned k q = (eq_by_cmp_equiv nat_list_cmp_total).symm k q

pub insert-of_entries : (es fs : List (List ℕ × ℕ)) (k : List ℕ) (v : ℕ) → T (maps.is_sorted cmp es) → T (maps.is_sorted cmp fs) → ((q : List ℕ) → lookup (is_at (cmp q)) fs ≡ cond (is_at (cmp k) q) (Some v) (lookup (is_at (cmp q)) es)) → maps.from_sorted {R = cmp} fs ≡ maps.insert (maps.from_sorted {R = cmp} es) k v
insert-of_entries es fs k v sorted sorted' updates = maps.same_map nat_list_cmp_total same _ _ (λ q.
    get-of_entries fs q sorted' ∙ updates q
    ∙ ap (λ b. cond b (Some v) (lookup (is_at (cmp q)) es)) (turned k q)
    ∙ ap (cond (eq_by_cmp cmp q k) (Some v)) (sym (get-of_entries es q sorted))
    ∙ sym (maps.get-insert nat_list_cmp_total (maps.from_sorted {R = cmp} es) k v q))

pub remove-of_entries : (es fs : List (List ℕ × ℕ)) (k : List ℕ) → T (maps.is_sorted cmp es) → T (maps.is_sorted cmp fs) → ((q : List ℕ) → lookup (is_at (cmp q)) fs ≡ cond (is_at (cmp k) q) None (lookup (is_at (cmp q)) es)) → maps.from_sorted {R = cmp} fs ≡ maps.remove (maps.from_sorted {R = cmp} es) k
remove-of_entries es fs k sorted sorted' updates = maps.same_map nat_list_cmp_total same _ _ (λ q.
    get-of_entries fs q sorted' ∙ updates q
    ∙ ap (λ b. cond b None (lookup (is_at (cmp q)) es)) (turned k q)
    ∙ ap (cond (eq_by_cmp cmp q k) None) (sym (get-of_entries es q sorted))
    ∙ sym (maps.get-remove nat_list_cmp_total (maps.from_sorted {R = cmp} es) k q))

pub len-of_entries : (es : List (List ℕ × ℕ)) → T (maps.is_sorted cmp es) → maps.len (maps.from_sorted {R = cmp} es) ≡ length es
len-of_entries es sorted = maps.len-entries _ ∙ ap length (maps.entries-from_sorted cmp es sorted)

pub empty-of_entries : (es : List (List ℕ × ℕ)) → es ≡ [] → maps.from_sorted {R = cmp} es ≡ maps.empty
empty-of_entries es none = ap maps.from_sorted none ∙ maps.empty_of_len _ (len-of_entries [] tt)

with_true : (b : Bool) → (b && true) ≡ b
with_true true = refl
with_true false = refl

pub filter-same : {A : Type 0} (p q : A → Bool) → ((x : A) → p x ≡ q x) → (xs : List A) → filter p xs ≡ filter q xs
filter-same p q alike [] = refl
filter-same p q alike (x ∷ xs) = λ i. cond (alike x i) (x ∷ filter-same p q alike xs i) (filter-same p q alike xs i)

-- the range above a name, in a map of std
pub above-of_entries : (es : List (List ℕ × ℕ)) (name : List ℕ) → T (maps.is_sorted cmp es) → entries_between cmp (Excluded name) Unbounded es ≡ entries_above (maps.from_sorted es) (Some name)
above-of_entries es name sorted =
    filter-same _ _ (λ e. with_true (is_lt (cmp name e.0))) es ∙ ap (filter (λ e. is_lt (cmp name e.0))) (sym (maps.entries-from_sorted cmp es sorted))

pub all-of_entries : (es : List (List ℕ × ℕ)) → T (maps.is_sorted cmp es) → entries_between cmp Unbounded Unbounded es ≡ entries_above (maps.from_sorted es) None
all-of_entries es sorted =
    filter-same (λ e. true && true) (λ e. true) (λ e. refl) es ∙ ap (filter (λ e. true)) (sym (maps.entries-from_sorted cmp es sorted))

no_items : {A : Type 0} (xs : List A) → length xs ≡ 0 → xs ≡ []
no_items [] e = refl
no_items (x ∷ xs) e = absurd (omega arith)

-- nothing stands in an empty directory
pub none_above : (after : Option (List ℕ)) → slice_get (entries_above maps.empty after) 0 ≡ None
none_above after =
    let none : maps.entries (maps.empty {X = ℕ} {R = cmp}) ≡ [] = no_items _ (sym (maps.len-entries _) ∙ maps.len-empty cmp ℕ) in
    ap (λ es. slice_get (filter (λ (e : List ℕ × ℕ). is_above after e.0) es) 0) none

pub get_empty : (name : List ℕ) → maps.get (maps.empty {X = ℕ} {R = cmp}) name ≡ None
get_empty name = maps.get-empty cmp name

equal : (r : Ordering) → is_eq r ≡ true → r ≡ Equal
equal Less e = absurd (cc)
equal Equal e = refl
equal Greater e = absurd (cc)

apart : (a b : Bool) (x y z : Option ℕ) → (a ≡ true → ¬ (b ≡ true)) → cond a x (cond b y z) ≡ cond b y (cond a x z)
apart true true x y z h = absurd (h refl refl)
apart true false x y z h = refl
apart false b x y z h = refl

-- an entry goes, and one with another name comes, in either order
pub remove-insert : (m : Map) (name fresh : List ℕ) (v w : ℕ) → maps.get m name ≡ Some w → maps.get m fresh ≡ None
    → maps.remove (maps.insert m fresh v) name ≡ maps.insert (maps.remove m name) fresh v
remove-insert m name fresh v w there absent = maps.same_map nat_list_cmp_total same _ _ (λ q.
    maps.get-remove nat_list_cmp_total (maps.insert m fresh v) name q
    ∙ ap (cond (eq_by_cmp cmp q name) None) (maps.get-insert nat_list_cmp_total m fresh v q)
    ∙ apart (eq_by_cmp cmp q name) (eq_by_cmp cmp q fresh) None (Some v) (maps.get m q) (λ at_name at_fresh.
    let e : name ≡ fresh = sym (same q name (equal _ at_name)) ∙ same q fresh (equal _ at_fresh) in
    let both : Some w ≡ None = sym there ∙ ap (maps.get m) e ∙ absent in
    cc)
    ∙ ap (cond (eq_by_cmp cmp q fresh) (Some v)) (sym (maps.get-remove nat_list_cmp_total m name q))
    ∙ sym (maps.get-insert nat_list_cmp_total (maps.remove m name) fresh v q))

eq_here : (k : List ℕ) → eq_by_cmp cmp k k ≡ true
eq_here k = ap is_eq (tied_itself nat_list_cmp_total k)

-- an entry that is there after one was put is that one, or was there before
pub inserted : (m : Map) (k : List ℕ) (v : ℕ) (q : List ℕ) (o : ℕ) → maps.get (maps.insert m k v) q ≡ Some o → ((q ≡ k) × (o ≡ v)) ⊎ (maps.get m q ≡ Some o)
inserted m k v q o h = go (eq_by_cmp cmp q k) refl (sym (maps.get-insert nat_list_cmp_total m k v q) ∙ h)
  where
    go : (b : Bool) → eq_by_cmp cmp q k ≡ b → cond b (Some v) (maps.get m q) ≡ Some o → ((q ≡ k) × (o ≡ v)) ⊎ (maps.get m q ≡ Some o)
    go true e is = let same_value : o ≡ v = cc in inl (same q k (equal _ e), same_value)
    go false e is = inr is

pub get-insert_here : (m : Map) (k : List ℕ) (v : ℕ) → maps.get (maps.insert m k v) k ≡ Some v
get-insert_here m k v = maps.get-insert nat_list_cmp_total m k v k ∙ ap (λ b. cond b (Some v) (maps.get m k)) (eq_here k)

-- an entry stays where one with a new name is put
pub get-insert_other : (m : Map) (k : List ℕ) (v : ℕ) (q : List ℕ) (o : ℕ) → maps.get m k ≡ None → maps.get m q ≡ Some o → maps.get (maps.insert m k v) q ≡ Some o
get-insert_other m k v q o absent there = maps.get-insert nat_list_cmp_total m k v q ∙ go (eq_by_cmp cmp q k) refl
  where
    go : (b : Bool) → eq_by_cmp cmp q k ≡ b → cond b (Some v) (maps.get m q) ≡ Some o
    go true e = let both : Some o ≡ None = sym there ∙ ap (maps.get m) (same q k (equal _ e)) ∙ absent in absurd (cc)
    go false e = there

pub len-insert_new : (m : Map) (k : List ℕ) (v : ℕ) → maps.get m k ≡ None → maps.len (maps.insert m k v) ≡ maps.len m + 1
len-insert_new m k v absent = maps.len-insert nat_list_cmp_total m k v ∙ ap (λ o. cond (is_some o) (maps.len m) (maps.len m + 1)) absent

-- an entry that is there after another went was there before, under another name
pub removed : (m : Map) (k q : List ℕ) (o : ℕ) → maps.get (maps.remove m k) q ≡ Some o → (¬ (q ≡ k)) × (maps.get m q ≡ Some o)
removed m k q o h = go (eq_by_cmp cmp q k) refl (sym (maps.get-remove nat_list_cmp_total m k q) ∙ h)
  where
    go : (b : Bool) → eq_by_cmp cmp q k ≡ b → cond b None (maps.get m q) ≡ Some o → (¬ (q ≡ k)) × (maps.get m q ≡ Some o)
    go true e is = absurd (cc)
    go false e is = (λ same_key. let both : true ≡ false = sym (ap (λ x. eq_by_cmp cmp x k) same_key ∙ eq_here k) ∙ e in cc, is)

-- an entry stays where another goes
pub get-remove_other : (m : Map) (k q : List ℕ) (o : ℕ) → ¬ (q ≡ k) → maps.get m q ≡ Some o → maps.get (maps.remove m k) q ≡ Some o
get-remove_other m k q o differs there = maps.get-remove nat_list_cmp_total m k q ∙ go (eq_by_cmp cmp q k) refl
  where
    go : (b : Bool) → eq_by_cmp cmp q k ≡ b → cond b None (maps.get m q) ≡ Some o
    go true e = absurd (differs (same q k (equal _ e)))
    go false e = there

pub len-remove_there : (m : Map) (k : List ℕ) (o : ℕ) → maps.get m k ≡ Some o → maps.len (maps.remove m k) ≡ maps.len m - 1
len-remove_there m k o there = maps.len-remove nat_list_cmp_total m k ∙ ap (λ x. cond (is_some x) (maps.len m - 1) (maps.len m)) there

-- where an entry is, the length is not 0
pub len-there : (m : Map) (k : List ℕ) (o : ℕ) → maps.get m k ≡ Some o → 1 ≤ maps.len m
len-there m k o there = go (maps.len m) refl
  where
    go : (n : ℕ) → maps.len m ≡ n → 1 ≤ maps.len m
    go zero e = let none : None ≡ Some o = sym (get_empty k) ∙ ap (λ x. maps.get x k) (sym (maps.empty_of_len m e)) ∙ there in absurd (cc)
    go (suc n) e = omega (arith, e)

-- what was absent stays so where an entry goes
pub get-remove_none : (m : Map) (k q : List ℕ) → maps.get m q ≡ None → maps.get (maps.remove m k) q ≡ None
get-remove_none m k q absent = maps.get-remove nat_list_cmp_total m k q ∙ go (eq_by_cmp cmp q k)
  where
    go : (b : Bool) → cond b None (maps.get m q) ≡ None
    go true = refl
    go false = absent

-- two names are equal, or they are not
pub same_key : (q k : List ℕ) → (q ≡ k) ⊎ (¬ (q ≡ k))
same_key q k = go (eq_by_cmp cmp q k) refl
  where
    go : (b : Bool) → eq_by_cmp cmp q k ≡ b → (q ≡ k) ⊎ (¬ (q ≡ k))
    go true e = inl (same q k (equal _ e))
    go false e = inr (λ is. let both : true ≡ false = sym (ap (λ x. eq_by_cmp cmp x k) is ∙ eq_here k) ∙ e in cc)

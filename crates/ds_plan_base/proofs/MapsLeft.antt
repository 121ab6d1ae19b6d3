-- Bitmaps without items that are given up: their bits, and of which clusters they are.
use Rattle.std.proofs.Common.{◌≡◌, ◌≢◌, ℕ, zero, suc, ◌+◌, ◌*◌, ◌/◌, ◌%◌, ◌<◌, ◌≤◌, ◌==◌, ◌||◌, Bool, true, false, if◌then◌else◌, List, [], ◌∷◌, map, length, slice_get, slice_set, Option, Some, None, inl, inr, refl, sym, ap, subst, ◌∙◌, length-set, get_or-set_same, get_or-set_other, arith}
use Rattle.std.specs.Prelude.{Ok, Contains, ◌↔◌}
use Rattle.std.specs.List.{list_any, filter}
use Rattle.std.proofs.lemmas.Bool.{false≢true, cases_Bool, cases_eq}
use Rattle.std.proofs.lemmas.Bool.Decides.{nat_tests}
use Rattle.std.proofs.lemmas.Nat.{div-add-mod', div-mul-add}
use Rattle.ds_base.specs.Geometry.{clusters_of, per_cluster}
use Rattle.ds_base.specs.declared.geometry.Geom.{Geom}
use Rattle.ds_base.specs.declared.geometry.Kind.{Kind}
use Rattle.ds_bitmap.specs.Bits.{Bitmap}
use Rattle.ds_image_tables.specs.Owned.{with_marks}
use Rattle.ds_image_tables.specs.Owns.{bit}
use Rattle.ds_image_parts.specs.Parts.{Parts}
use Rattle.ds_image.specs.SeenValues.{SeenValue}
use Rattle.ds_image_tables.proofs.Spelling.Places.{Contains-from_at, at-from_Contains}
use Rattle.ds_layout.specs.Places.{place_sector}
use Rattle.ds_layout.specs.declared.places.Place.TheVariants as places
use Rattle.ds_plan_base.specs.Giving.{Maps, is_touched, map_given, map_without, or_odd, map_left, maps_from}
use Rattle.ds_plan_base.specs.Items.{map_seen}
use Rattle.ds_plan_base.specs.Steps.{after}
use Rattle.ds_plan_base.proofs.Limits.{after-ok}

-- Tests of a list

pub any-some : {X : Type 0} (test : X → Bool) (xs : List X) → list_any test xs ≡ true → (i : ℕ) × ((x : X) × (slice_get xs i ≡ Some x) × (test x ≡ true))
any-some test [] any = absurd (false≢true any)
any-some test (x ∷ xs) any = elim (cases_Bool (test x)) [
  | inl here ↦ (0, (x, refl, here))
  | inr other ↦
      let rest = any-some test xs (sym (ap (λ b. b || list_any test xs) other) ∙ any) in
      (suc rest.0, (rest.1.0, rest.1.1, rest.1.2))
]

either-none : (a b : Bool) → (a || b) ≡ false → (a ≡ false) × (b ≡ false)
either-none true b e = absurd (false≢true (sym e))
either-none false b e = (refl, e)

pub any-none : {X : Type 0} (test : X → Bool) (xs : List X) → list_any test xs ≡ false → (i : ℕ) (x : X) → slice_get xs i ≡ Some x → test x ≡ false
any-none test [] none i x at = absurd cc
any-none test (y ∷ xs) none zero x at =
    let same : y ≡ x = cc in
    subst (λ z. test z ≡ false) same (either-none (test y) (list_any test xs) none).0
any-none test (y ∷ xs) none (suc i) x at = any-none test xs (either-none (test y) (list_any test xs) none).1 i x at

-- Elements of a list with one in front

contains-behind : (n x : ℕ) (xs : List ℕ) → Contains xs x → Contains (n ∷ xs) x
contains-behind n x xs held = let at = at-from_Contains xs x held in Contains-from_at (n ∷ xs) (suc at.0) x at.1

contains-rest : (n x : ℕ) (xs : List ℕ) → Contains (n ∷ xs) x → x ≢ n → Contains xs x
contains-rest n x xs held other =
    let at = at-from_Contains (n ∷ xs) x held in
    by at.0 at.1
  where
    by : (i : ℕ) → slice_get (n ∷ xs) i ≡ Some x → Contains xs x
    by zero at = absurd (other (let same : n ≡ x = cc in sym same))
    by (suc i) at = Contains-from_at xs i x at

contains-nothing : (x : ℕ) → ¬ Contains [] x
contains-nothing x held = absurd (omega (arith, held.1))

-- The bits of a cluster

-- the items of one cluster among those of a kind, by their numbers in the cluster
abbrev pub in_cluster : Geom → Kind → ℕ → List ℕ → List ℕ
in_cluster g kind cluster items = map (λ x. x % per_cluster g kind) (filter (λ x. (x / per_cluster g kind) == cluster) items)

-- the bitmap of a cluster in which those of the items that are in it are no longer used
pub record IsWithout (g : Geom) (kind : Kind) (cluster : ℕ) (items : List ℕ) (before after : Bitmap) : Type 0 where
  pub same_kind : after.kind ≡ before.kind
  pub same_cluster : after.cluster ≡ before.cluster
  pub same_count : length after.used ≡ length before.used
  pub bits : (item : ℕ) → item < per_cluster g kind
      → (bit after.used item ≡ true) ↔ ((bit before.used item ≡ true) × ¬ Contains items (cluster * per_cluster g kind + item))
  pub marks : after.used ≡ with_marks before.used (in_cluster g kind cluster items) false

module _ (g : Geom) (kind : Kind) (cluster : ℕ) where
  abbrev per : ℕ
  per = per_cluster g kind

  -- an item of the cluster is at its place there
  at-place : (n : ℕ) → n / per ≡ cluster → cluster * per + n % per ≡ n
  at-place n here = ap (λ c. c * per + n % per) (sym here) ∙ div-add-mod' n per

  marks-in : (n : ℕ) (items : List ℕ) (used : List Bool) → ((n / per) == cluster) ≡ true
      → with_marks used (in_cluster g kind cluster (n ∷ items)) false ≡ with_marks (slice_set used (n % per) false) (in_cluster g kind cluster items) false
  marks-in n items used here =
      ap (λ b. with_marks used (map (λ x. x % per) (if b then n ∷ filter (λ x. (x / per) == cluster) items else filter (λ x. (x / per) == cluster) items)) false) here

  marks-out : (n : ℕ) (items : List ℕ) (used : List Bool) → ((n / per) == cluster) ≡ false
      → with_marks used (in_cluster g kind cluster (n ∷ items)) false ≡ with_marks used (in_cluster g kind cluster items) false
  marks-out n items used other =
      ap (λ b. with_marks used (map (λ x. x % per) (if b then n ∷ filter (λ x. (x / per) == cluster) items else filter (λ x. (x / per) == cluster) items)) false) other

  -- one item more that is in the cluster
  one-in : (n : ℕ) (items : List ℕ) (before after : Bitmap) → n / per ≡ cluster → ((n / per) == cluster) ≡ true → length before.used ≡ per
      → IsWithout g kind cluster items (map_given before (n % per)) after → IsWithout g kind cluster (n ∷ items) before after
  one-in n items before after here test wide is = record {
    same_kind = is.same_kind;
    same_cluster = is.same_cluster;
    same_count = is.same_count ∙ length-set before.used (n % per) false;
    bits = λ item small. elim (cases_eq item (n % per)) [
      | inl same ↦ (
        λ marked.
            let clear : bit (slice_set before.used (n % per) false) item ≡ false =
            ap (bit (slice_set before.used (n % per) false)) same ∙ get_or-set_same before.used (n % per) false false (omega (arith, small, same, wide)) in
            absurd (false≢true (sym clear ∙ ((is.bits item small).0 marked).0)),
        λ both. absurd (both.1 (Contains-from_at (n ∷ items) 0 (cluster * per + item) (ap Some (sym (ap (λ i. cluster * per + i) same ∙ at-place n here))))),
      )
      | inr apart ↦
          let kept : bit (slice_set before.used (n % per) false) item ≡ bit before.used item = get_or-set_other before.used (n % per) item false false apart in
          let other : cluster * per + item ≢ n = λ e. apart (omega (arith, e, at-place n here)) in (
            λ marked.
                let both = (is.bits item small).0 marked in
                (sym kept ∙ both.0, λ held. both.1 (contains-rest n (cluster * per + item) items held other)),
            λ both. (is.bits item small).1 (kept ∙ both.0, λ held. both.1 (contains-behind n (cluster * per + item) items held)),
          )
    ];
    marks = is.marks ∙ sym (marks-in n items before.used test);
  }

  -- one item more that isn't
  one-out : (n : ℕ) (items : List ℕ) (before after : Bitmap) → n / per ≢ cluster → ((n / per) == cluster) ≡ false
      → IsWithout g kind cluster items before after → IsWithout g kind cluster (n ∷ items) before after
  one-out n items before after out test is = record {
    same_kind = is.same_kind;
    same_cluster = is.same_cluster;
    same_count = is.same_count;
    bits = λ item small.
        let other : cluster * per + item ≢ n = λ e. out (ap (λ m. m / per) (sym e) ∙ div-mul-add cluster per item small) in (
          λ marked.
              let both = (is.bits item small).0 marked in
              (both.0, λ held. both.1 (contains-rest n (cluster * per + item) items held other)),
          λ both. (is.bits item small).1 (both.0, λ held. both.1 (contains-behind n (cluster * per + item) items held)),
        );
    marks = is.marks ∙ sym (marks-out n items before.used test);
  }

  pub without-is : (items : List ℕ) (before after : Bitmap) → length before.used ≡ per → map_without g kind cluster items before ≡ Some after
      → IsWithout g kind cluster items before after
  without-is [] before after wide is =
      let same : before ≡ after = cc in
      subst (IsWithout g kind cluster [] before) same
      (record {
        same_kind = refl;
        same_cluster = refl;
        same_count = refl;
        bits = λ item small. (λ marked. (marked, contains-nothing (cluster * per + item)), λ both. both.0);
        marks = refl;
      })
  without-is (n ∷ items) before after wide is =
      by ((n / per) == cluster) (bit before.used (n % per)) refl refl is (λ b w e. without-is items b after w e)
    where
      by : (here set : Bool) → ((n / per) == cluster) ≡ here → bit before.used (n % per) ≡ set
          → (if here then (if set then map_without g kind cluster items (map_given before (n % per)) else None) else map_without g kind cluster items before) ≡ Some after
          → ((b : Bitmap) → length b.used ≡ per → map_without g kind cluster items b ≡ Some after → IsWithout g kind cluster items b after)
          → IsWithout g kind cluster (n ∷ items) before after
      by true true here set is rest =
          one-in n items before after (grind (arith, nat_tests, here)) here wide
          (rest (map_given before (n % per)) (length-set before.used (n % per) false ∙ wide) is)
      by true false here set is rest = absurd cc
      by false set here e is rest = one-out n items before after (λ same. absurd (grind (arith, nat_tests, here, same))) here (rest before wide is)

  -- where each of the items in the cluster is used, and none stands twice, there is such a bitmap
  pub without-some : (items : List ℕ) (before : Bitmap)
      → ((i n : ℕ) → slice_get items i ≡ Some n → n / per ≡ cluster → bit before.used (n % per) ≡ true)
      → ((i j n : ℕ) → slice_get items i ≡ Some n → slice_get items j ≡ Some n → i ≡ j)
      → (after : Bitmap) × (map_without g kind cluster items before ≡ Some after)
  without-some [] before each once = (before, refl)
  without-some (n ∷ items) before each once =
      by ((n / per) == cluster) (bit before.used (n % per)) refl refl (λ b each. without-some items b each (λ i j x one two. omega (arith, once (suc i) (suc j) x one two)))
    where
      later : (i x : ℕ) → slice_get items i ≡ Some x → x ≢ n
      later i x at same = absurd (omega (arith, once 0 (suc i) x (ap Some (sym same)) at))

      by : (here set : Bool) → ((n / per) == cluster) ≡ here → bit before.used (n % per) ≡ set
          → ((b : Bitmap) → ((i x : ℕ) → slice_get items i ≡ Some x → x / per ≡ cluster → bit b.used (x % per) ≡ true)
          → (after : Bitmap) × (map_without g kind cluster items b ≡ Some after))
          → (after : Bitmap) × ((if here then (if set then map_without g kind cluster items (map_given before (n % per)) else None) else map_without g kind cluster items before) ≡ Some after)
      by true true here set rest =
          let in_it : n / per ≡ cluster = grind (arith, nat_tests, here) in
          rest (map_given before (n % per))
          (λ i x at inside.
          let apart : x % per ≢ n % per = λ same. later i x at (sym (at-place x inside) ∙ ap (λ m. cluster * per + m) same ∙ at-place n in_it) in
          get_or-set_other before.used (n % per) (x % per) false false apart ∙ each (suc i) x at inside)
      by true false here set rest = absurd (false≢true (sym set ∙ each 0 n refl (grind (arith, nat_tests, here))))
      by false set here e rest = rest before (λ i x at inside. each (suc i) x at inside)

-- The clusters

-- the bitmap of a cluster of some of the items, without them
pub record IsLeft (g : Geom) (seen : SeenValue) (p : Parts) (kind : Kind) (items : List ℕ) (from : ℕ) (m : ℕ × Bitmap) : Type 0 where
  pub past : from ≤ m.0
  pub inside : m.0 < clusters_of g kind
  pub before : Bitmap
  pub is_seen : map_seen g seen p kind m.0 ≡ Ok before
  pub without : map_without g kind m.0 items before ≡ Some m.1

-- the bitmaps of the clusters from this one on in which some of the items are, by rising cluster, each without them
pub record AreLeft (g : Geom) (seen : SeenValue) (p : Parts) (kind : Kind) (items : List ℕ) (from : ℕ) (maps : Maps) : Type 0 where
  pub each : (i : ℕ) (m : ℕ × Bitmap) → slice_get maps i ≡ Some m → IsLeft g seen p kind items from m
  pub rising : (i j : ℕ) (m n : ℕ × Bitmap) → i < j → slice_get maps i ≡ Some m → slice_get maps j ≡ Some n → m.0 < n.0
  pub whole : (i n : ℕ) → slice_get items i ≡ Some n → from ≤ n / per_cluster g kind → n / per_cluster g kind < clusters_of g kind
      → (j : ℕ) × ((m : ℕ × Bitmap) × (slice_get maps j ≡ Some m) × (m.0 ≡ n / per_cluster g kind))
  pub few : length maps + from ≤ clusters_of g kind

or_odd-some : (at : ℕ) (r : Option Bitmap) (map : Bitmap) → or_odd at r ≡ Ok map → r ≡ Some map
or_odd-some at None map is = absurd cc
or_odd-some at (Some b) map is = let same : b ≡ map = cc in ap Some same

module _ (g : Geom) (seen : SeenValue) (p : Parts) (kind : Kind) (items : List ℕ) where
  later-left : (from : ℕ) (m : ℕ × Bitmap) → IsLeft g seen p kind items (suc from) m → IsLeft g seen p kind items from m
  later-left from m is = record { past = omega (arith, is.past); inside = is.inside; before = is.before; is_seen = is.is_seen; without = is.without }

  -- a cluster in which none of the items is
  skipped : (from : ℕ) (maps : Maps) → is_touched g kind from items ≡ false → AreLeft g seen p kind items (suc from) maps → AreLeft g seen p kind items from maps
  skipped from maps none are = record {
    each = λ i m at. later-left from m (are.each i m at);
    rising = are.rising;
    whole = λ i n at past inside.
        let out = any-none (λ x. (x / per_cluster g kind) == from) items none i n at in
        let later : suc from ≤ n / per_cluster g kind = grind (arith, nat_tests, out, past) in
        are.whole i n at later inside;
    few = omega (arith, are.few);
  }

  -- one in which some are
  one-more : (from : ℕ) (map before : Bitmap) (maps : Maps) → from < clusters_of g kind → map_seen g seen p kind from ≡ Ok before → map_without g kind from items before ≡ Some map
      → AreLeft g seen p kind items (suc from) maps → AreLeft g seen p kind items from ((from, map) ∷ maps)
  one-more from map before maps inside is_seen without are = record {
    each = λ i m at. each-one i m at;
    rising = λ i j m n l one two. rising-one i j m n l one two;
    whole = λ i n at past within. elim (cases_eq from (n / per_cluster g kind)) [
      | inl here ↦ (0, ((from, map), refl, here))
      | inr other ↦
          let found = are.whole i n at (omega (arith, past, other)) within in
          (suc found.0, (found.1.0, found.1.1, found.1.2))
    ];
    few = omega (arith, are.few);
  }
    where
      each-one : (i : ℕ) (m : ℕ × Bitmap) → slice_get ((from, map) ∷ maps) i ≡ Some m → IsLeft g seen p kind items from m
      each-one zero m at =
          let same : ◌≡◌ {A = ℕ × Bitmap} (from, map) m = cc in
          subst (IsLeft g seen p kind items from) same (record { past = omega arith; inside = inside; before = before; is_seen = is_seen; without = without })
      each-one (suc i) m at = later-left from m (are.each i m at)

      rising-one : (i j : ℕ) (m n : ℕ × Bitmap) → i < j → slice_get ((from, map) ∷ maps) i ≡ Some m → slice_get ((from, map) ∷ maps) j ≡ Some n → m.0 < n.0
      rising-one i zero m n l one two = absurd (omega (arith, l))
      rising-one zero (suc j) m n l one two =
          let same : ◌≡◌ {A = ℕ × Bitmap} (from, map) m = cc in
          let first : from ≡ m.0 = ap (λ (x : ℕ × Bitmap). x.0) same in
          omega (arith, first, (are.each j n two).past)
      rising-one (suc i) (suc j) m n l one two = are.rising i j m n (omega (arith, l)) one two

  pub maps-are : (left from : ℕ) (maps : Maps) → from + left ≡ clusters_of g kind → maps_from g seen p kind items from left ≡ Ok maps → AreLeft g seen p kind items from maps
  maps-are zero from maps all is =
      let same : ◌≡◌ {A = Maps} [] maps = cc in
      subst (AreLeft g seen p kind items from) same
      (record {
        each = λ i m at. absurd (let wrong : ◌≡◌ {A = Option (ℕ × Bitmap)} None (Some m) = at in cc);
        rising = λ i j m n l one two. absurd (let wrong : ◌≡◌ {A = Option (ℕ × Bitmap)} None (Some m) = one in cc);
        whole = λ i n at past inside. absurd (omega (arith, all, past, inside));
        few = omega (arith, all);
      })
  maps-are (suc left) from maps all is =
      by (is_touched g kind from items) refl is (λ maps e. maps-are left (suc from) maps (omega (arith, all)) e)
    where
      by : (touched : Bool) → is_touched g kind from items ≡ touched
          → (if touched then after (map_left g seen p kind from items) (λ map. after (maps_from g seen p kind items (suc from) left) (λ maps. Ok ((from, map) ∷ maps)))
          else maps_from g seen p kind items (suc from) left) ≡ Ok maps
          → ((maps : Maps) → maps_from g seen p kind items (suc from) left ≡ Ok maps → AreLeft g seen p kind items (suc from) maps)
          → AreLeft g seen p kind items from maps
      by true e is rest =
          let one = after-ok (map_left g seen p kind from items) _ maps is in
          let two = after-ok (maps_from g seen p kind items (suc from) left) _ maps one.2 in
          let before = after-ok (map_seen g seen p kind from) _ one.0 one.1 in
          let same : ◌≡◌ {A = Maps} ((from, one.0) ∷ two.0) maps = cc in
          subst (AreLeft g seen p kind items from) same
          (one-more from one.0 before.0 two.0 (omega (arith, all)) before.1
          (or_odd-some (place_sector g (places.Bitmap kind from)) (map_without g kind from items before.0) one.0 before.2)
          (rest two.0 two.1))
      by false e is rest = skipped from maps e (rest maps is)

-- A planner that gives items up asks for what it may, and clears their bits.
use Rattle.std.proofs.Common.{◌≡◌, ℕ, zero, suc, ◌+◌, ◌*◌, ◌/◌, ◌%◌, ◌<◌, ◌≤◌, ◌==◌, nat_le, true, false, List, ◌∷◌, Option, Some, None, inr, refl, sym, ap, subst, ◌∙◌, arith, slice_get, is_some}
use Rattle.std.specs.Prelude.{Ok, Err, IsSome}
use Rattle.std.proofs.Math.Nat.{mod-lt}
use Rattle.std.proofs.lemmas.Bool.Decides.{nat_tests}
use Rattle.std.proofs.lemmas.Nat.{div-add-mod'}
use Rattle.ds_base.specs.Geometry.{IsGeom, clusters_of, per_cluster, items_of}
use Rattle.ds_base.specs.declared.geometry.Geom.{Geom}
use Rattle.ds_base.specs.declared.geometry.GeomField.TheVariants.{Items}
use Rattle.ds_base.specs.declared.geometry.Kind.{Kind}
use Rattle.ds_base.specs.declared.names.Key.{Key}
use Rattle.ds_base.specs.declared.sectors.Sector.{Sector}
use Rattle.ds_bitmap.specs.Bits.{Bitmap}
use Rattle.ds_image.proofs.Bits.{bits-get}
use Rattle.ds_image.specs.Asking.{Agrees}
use Rattle.ds_image_tables.specs.Owns.{bit}
use Rattle.ds_image_parts.specs.Parts.{Parts, part_at, maps_of, bits_in}
use Rattle.ds_image_parts.specs.Readings.{ReadsParts}
use Rattle.ds_image.specs.SeenValues.{SeenValue, has_lock, look_of}
use Rattle.ds_image.specs.Sound.{StandsFor}
use Rattle.ds_image.specs.declared.asks.Ask.{Ask}
use Rattle.ds_image.specs.declared.asks.Ask.TheVariants as asks
use Rattle.ds_image.proofs.Ownership.Listed.{bits_length}
use Rattle.ds_image_tables.proofs.Spelling.Places.{marked-within}
use Rattle.ds_layout.specs.Places.{cluster_lock, place_sector}
use Rattle.ds_layout.specs.declared.places.Place.TheVariants as places
use Rattle.ds_plan_base.specs.Giving.{some_outside, is_touched, map_without, or_odd, map_left, maps_from, maps_left}
use Rattle.ds_plan_base.proofs.Goes.{Goes}
use Rattle.ds_plan_base.specs.Items.{map_read, map_seen}
use Rattle.ds_image.specs.Locks.{GivesUp, to_give, MayLock}
use Rattle.ds_plan_base.proofs.PlanAsks.{PlanAsks, HasMap}
use Rattle.ds_plan_base.proofs.Going.{goes-after, goes-if, goes-weaker}
use Rattle.ds_plan_base.proofs.ItemWalk.{goes-known}
use Rattle.ds_plan_base.proofs.Limits.{if-ok, map_alike, part-known}
use Rattle.ds_plan_base.proofs.MapWalk.{map_goes}
use Rattle.ds_plan_base.proofs.MapsLeft.{any-some, any-none, without-some, AreLeft, maps-are}
use Rattle.ds_plan_base.specs.declared.stops.Stop.TheVariants as stops
use Rattle.ds_plan_base.proofs.Alike.{some-there}
use Rattle.ds_tree.specs.Nodes.{FileTree}
use Rattle.ds_tree.specs.declared.calls.CallOf.{CallOf}

-- each of the items is marked, and none stands twice
pub record AreMarked (q : Parts) (kind : Kind) (items : List ℕ) : Type 0 where
  pub marked : (i n : ℕ) → slice_get items i ≡ Some n → bit (bits_in (maps_of q kind)) n ≡ true
  pub once : (i j n : ℕ) → slice_get items i ≡ Some n → slice_get items j ≡ Some n → i ≡ j

-- a bitmap that is known was locked and read
pub map-known : (g : Geom) (seen : SeenValue) (p : Parts) → ReadsParts g (look_of seen) p → (kind : Kind) (c : ℕ) (map : Bitmap) → c < clusters_of g kind
    → map_seen g seen p kind c ≡ Ok map → HasMap g seen p kind c map
map-known g seen p reads kind c map inside is =
    let at = place_sector g (places.Bitmap kind c) in
    let held = if-ok (has_lock seen (cluster_lock kind c)) (map_read g seen p kind c) (stops.Lock (cluster_lock kind c)) map is in
    let known = part-known at (look_of seen at) (part_at (maps_of p kind) c) map held.1 in
    record { inside = inside; held = held.0; read = ap is_some known.1; there = known.2; is_bits = (((reads.maps kind).each c inside map).0 known.2).0 }

-- and is that of each image that agrees
pub map-in : (g : Geom) (seen : SeenValue) (p : Parts) → ReadsParts g (look_of seen) p → (kind : Kind) (c : ℕ) (map : Bitmap) → HasMap g seen p kind c map
    → (image : List Sector) (t : FileTree) (stands : StandsFor g image t) → Agrees seen image → part_at (maps_of stands.parts kind) c ≡ Some map
map-in g seen p reads kind c map has image t stands agrees =
    let at = place_sector g (places.Bitmap kind c) in
    let known = some-there (look_of seen at) has.read in
    map_alike g (slice_get image) (look_of seen) stands.parts p kind c has.inside (agrees at known.0 known.1 ∙ sym known.1) stands.reads reads ∙ has.there

module _ (g : Geom) (is_geom : IsGeom g) (slot : ℕ) (call : CallOf Key) (MayHold MayRead : SeenValue → Parts → ℕ → Type 0)
    (seen : SeenValue) (p : Parts) (reads : ReadsParts g (look_of seen) p) (kind : Kind) (items : List ℕ) (listed : ℕ) (read_listed : IsSome (look_of seen listed))
    (owned : (image : List Sector) (t : FileTree) (stands : StandsFor g image t) → Agrees seen image → AreMarked stands.parts kind items)
    (gives : (i n : ℕ) → slice_get items i ≡ Some n → GivesUp p call kind n)
    (may_hold : (i n : ℕ) → slice_get items i ≡ Some n → n / per_cluster g kind < clusters_of g kind → MayHold seen p (cluster_lock kind (n / per_cluster g kind)))
    (may_read : (i n : ℕ) → slice_get items i ≡ Some n → n / per_cluster g kind < clusters_of g kind → MayRead seen p (place_sector g (places.Bitmap kind (n / per_cluster g kind)))) where
  abbrev Good : Ask → Type 0
  Good = PlanAsks g slot call MayHold MayRead seen p

  abbrev per : ℕ
  per = per_cluster g kind

  abbrev map_at : ℕ → ℕ
  map_at c = place_sector g (places.Bitmap kind c)

  abbrev Any : {V : Type 0} → V → Type 0
  Any v = Unit {0}

  some-each : 0 < per
  some-each = omega (arith, (is_geom (Items kind)).0)

  -- an item that is none of the volume is marked in no image
  outside_good : some_outside g kind items ≡ true → Good (asks.Odd listed)
  outside_good outside =
      let found = any-some (λ n. nat_le (items_of g kind) n) items outside in
      record {
        read = read_listed;
        none = λ image t stands agrees.
            let q = stands.parts in
            let within = marked-within (bits_in (maps_of q kind)) found.1.0 ((owned image t stands agrees).marked found.0 found.1.0 found.1.1) in
            let past : items_of g kind ≤ found.1.0 = let test = found.1.2 in grind (arith, nat_tests, test) in
            absurd (omega (arith, within, past, bits_length g (slice_get image) kind (maps_of q kind) (stands.reads.maps kind) (stands.sound.maps kind)));
      }

  module _ (inside_all : (i n : ℕ) → slice_get items i ≡ Some n → n < items_of g kind) where
    module _ (c : ℕ) (inside : c < clusters_of g kind) (touched : is_touched g kind c items ≡ true) where
      one : (i : ℕ) × ((n : ℕ) × (slice_get items i ≡ Some n) × ((n / per == c) ≡ true))
      one = any-some (λ n. n / per == c) items touched

      here : one.1.0 / per ≡ c
      here = let test = one.1.2 in grind (arith, nat_tests, test)

      lock_good : has_lock seen (cluster_lock kind c) ≡ false → Good (asks.Lock (cluster_lock kind c))
      lock_good free =
          let n = one.1.0 in
          record {
            is_lock = inr (record { kind = kind; cluster = c; within = inside; number = refl });
            free = free;
            allowed = subst (λ x. MayLock g slot call p (cluster_lock kind x)) here (to_give kind n (gives one.0 n one.1.1) (inside_all one.0 n one.1.1));
            one = subst (λ x. MayHold seen p (cluster_lock kind x)) here (may_hold one.0 n one.1.1 (subst (λ x. x < clusters_of g kind) (sym here) inside));
          }

      may_read_map : MayRead seen p (map_at c)
      may_read_map = subst (λ x. MayRead seen p (map_at x)) here (may_read one.0 one.1.0 one.1.1 (subst (λ x. x < clusters_of g kind) (sym here) inside))

      -- a bitmap whose items can't be given up is that of no image
      refused_good : (map : Bitmap) → HasMap g seen p kind c map → map_without g kind c items map ≡ None → Good (asks.Odd (map_at c))
      refused_good map has none = record {
        read = has.read;
        none = λ image t stands agrees.
            let q = stands.parts in
            let there = map-in g seen p reads kind c map has image t stands agrees in
            let owns = owned image t stands agrees in
            let some = without-some g kind c items map
            (λ i n at inside.
            let place : c * per + n % per ≡ n = ap (λ x. x * per + n % per) (sym inside) ∙ div-add-mod' n per in
            let same = bits-get g (slice_get image) kind (maps_of q kind) c (n % per) map false (stands.reads.maps kind) (stands.sound.maps kind) there (mod-lt n some-each) in
            sym same ∙ ap (bit (bits_in (maps_of q kind))) place ∙ owns.marked i n at)
            owns.once in
            let wrong : ◌≡◌ {A = Option Bitmap} None (Some some.0) = sym none ∙ some.1 in
            absurd cc;
      }

      odd-or : (map : Bitmap) → HasMap g seen p kind c map → (r : Option Bitmap) → map_without g kind c items map ≡ r → Goes Good (or_odd (map_at c) r) Any
      odd-or map has None none = refused_good map has none
      odd-or map has (Some left) is = tt

      left_goes : Goes Good (map_left g seen p kind c items) Any
      left_goes =
          goes-after Good (HasMap g seen p kind c) Any (map_seen g seen p kind c) _
          (map_goes g slot call MayHold MayRead seen p reads kind c inside may_read_map lock_good)
          (λ map has. odd-or map has (map_without g kind c items map) refl)

    from_goes : (left from : ℕ) → from + left ≡ clusters_of g kind → Goes Good (maps_from g seen p kind items from left) Any
    from_goes zero from all = tt
    from_goes (suc left) from all =
        let rest = from_goes left (suc from) (omega (arith, all)) in
        goes-if Good Any (is_touched g kind from items) _ (maps_from g seen p kind items (suc from) left)
        (λ touched.
        goes-after Good Any Any (map_left g seen p kind from items) _ (left_goes from (omega (arith, all)) touched)
        (λ map is. goes-after Good Any Any (maps_from g seen p kind items (suc from) left) (λ maps. Ok ((from, map) ∷ maps)) rest (λ maps is. tt)))
        (λ none. rest)

  -- the bitmaps are known, or what is asked for is good
  pub give_goes : Goes Good (maps_left g seen p kind items listed) (AreLeft g seen p kind items 0)
  give_goes =
      goes-if Good (AreLeft g seen p kind items 0) (some_outside g kind items) (Err (stops.Odd listed)) (maps_from g seen p kind items 0 (clusters_of g kind))
      outside_good
      (λ inside.
      goes-weaker Good (λ maps. Unit {0} × (maps_from g seen p kind items 0 (clusters_of g kind) ≡ Ok maps)) (AreLeft g seen p kind items 0) (maps_from g seen p kind items 0 (clusters_of g kind))
      (goes-known Good Any (maps_from g seen p kind items 0 (clusters_of g kind))
      (from_goes (λ i n at. let test = any-none (λ n. nat_le (items_of g kind) n) items inside i n at in grind (arith, nat_tests, test)) (clusters_of g kind) 0 (omega arith)))
      (λ maps is. maps-are g seen p kind items (clusters_of g kind) 0 maps (omega arith) is.1))

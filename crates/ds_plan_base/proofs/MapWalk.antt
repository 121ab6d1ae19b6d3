-- A planner that wants the bitmap of a cluster asks for what it may.
use Rattle.std.proofs.Common.{◌≡◌, ℕ, ◌<◌, true, false, None, Some, refl, sym, ap, ◌∙◌, arith, slice_get, is_some}
use Rattle.std.specs.Prelude.{Err, IsSome}
use Rattle.std.proofs.lemmas.Bool.{false≢true}
use Rattle.ds_base.specs.Geometry.{clusters_of}
use Rattle.ds_base.specs.declared.geometry.Geom.{Geom}
use Rattle.ds_base.specs.declared.geometry.Kind.{Kind}
use Rattle.ds_base.specs.declared.names.Key.{Key}
use Rattle.ds_base.specs.declared.sectors.Sector.{Sector}
use Rattle.ds_image_parts.specs.Parts.{Parts, part_at, maps_of}
use Rattle.ds_image_parts.specs.Readings.{ReadsParts}
use Rattle.ds_image.specs.SeenValues.{SeenValue, has_lock, look_of}
use Rattle.ds_image.specs.declared.asks.Ask.{Ask}
use Rattle.ds_image.specs.declared.asks.Ask.TheVariants as asks
use Rattle.ds_layout.specs.Places.{cluster_lock, place_sector}
use Rattle.ds_layout.specs.declared.places.Place.TheVariants as places
use Rattle.ds_plan_base.proofs.Goes.{Goes}
use Rattle.ds_plan_base.specs.Items.{map_read, map_seen}
use Rattle.ds_plan_base.proofs.PlanAsks.{PlanAsks, HasMap}
use Rattle.ds_plan_base.proofs.Going.{goes-if, goes-part}
use Rattle.ds_plan_base.proofs.Limits.{map_alike}
use Rattle.ds_plan_base.specs.declared.stops.Stop.TheVariants as stops
use Rattle.ds_tree.specs.declared.calls.CallOf.{CallOf}

module _ (g : Geom) (slot : ℕ) (call : CallOf Key) (MayHold MayRead : SeenValue → Parts → ℕ → Type 0) (seen : SeenValue) (p : Parts) (reads : ReadsParts g (look_of seen) p)
    (kind : Kind) (c : ℕ) (inside : c < clusters_of g kind) (may_read : MayRead seen p (place_sector g (places.Bitmap kind c)))
    (lock_good : has_lock seen (cluster_lock kind c) ≡ false → PlanAsks g slot call MayHold MayRead seen p (asks.Lock (cluster_lock kind c))) where
  abbrev Good : Ask → Type 0
  Good = PlanAsks g slot call MayHold MayRead seen p

  abbrev map_at : ℕ
  map_at = place_sector g (places.Bitmap kind c)

  unread_good : has_lock seen (cluster_lock kind c) ≡ true → look_of seen map_at ≡ None → Good (asks.Read map_at)
  unread_good held unread = record {
    readable = record {
      metadata = record { place = places.Bitmap kind c; is_place = inside; here = refl; kept = refl };
      unread = unread;
      guarded = λ image t stands agrees. record {
        object = cluster_lock kind c;
        guards = record { parts = stands.parts; reads = stands.reads; place = places.Bitmap kind c; is_place = inside; here = refl; guards = refl };
        held = held;
      };
    };
    one = may_read;
  }

  odd_good : (s : Sector) → look_of seen map_at ≡ Some s → part_at (maps_of p kind) c ≡ None → Good (asks.Odd map_at)
  odd_good s there none = record {
    read = ap is_some there;
    none = λ image t stands agrees.
        let same = map_alike g (slice_get image) (look_of seen) stands.parts p kind c inside (agrees map_at s there ∙ sym there) stands.reads reads in
        let some : IsSome (part_at (maps_of stands.parts kind) c) = stands.sound.maps kind c (omega (arith, inside, (stands.reads.maps kind).len)) in
        false≢true (sym (ap is_some (same ∙ none)) ∙ some);
  }

  -- the bitmap is known, or what is asked for is good: the cluster's lock, or its sector
  pub map_goes : Goes Good (map_seen g seen p kind c) (HasMap g seen p kind c)
  map_goes =
      goes-if Good (HasMap g seen p kind c) (has_lock seen (cluster_lock kind c)) (map_read g seen p kind c) (Err (stops.Lock (cluster_lock kind c)))
      (λ held.
      goes-part Good (HasMap g seen p kind c) map_at (look_of seen map_at) (part_at (maps_of p kind) c) (unread_good held) odd_good
      (λ s map there is. record { inside = inside; held = held; read = ap is_some there; there = is; is_bits = (((reads.maps kind).each c inside map).0 is).0 }))
      lock_good

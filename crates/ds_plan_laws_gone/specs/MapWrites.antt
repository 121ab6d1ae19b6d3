-- Bitmaps of several clusters that are written.
use Rattle.std.specs.Prelude.{◌≡◌, ◌↔◌, ◌⊎◌, ℕ, ◌+◌, ◌*◌, ◌/◌, ◌<◌, Bool, true, List, length, map, fold, Contains, Some, slice_get, slice_set}
use Rattle.ds_base.specs.Geometry.{per_cluster}
use Rattle.ds_base.specs.declared.geometry.Geom.{Geom}
use Rattle.ds_base.specs.declared.geometry.Kind.{Kind}
use Rattle.ds_base.specs.declared.sectors.Sector.{Sector}
use Rattle.ds_bitmap.specs.Bits.{Bitmap, bits_bytes}
use Rattle.ds_layout.specs.Places.{place_sector}
use Rattle.ds_layout.specs.declared.places.Place.TheVariants as places
use Rattle.ds_image_tables.specs.Owns.{bit}
use Rattle.ds_image_parts.specs.Parts.{Parts, part_at, maps_of}
use Rattle.ds_image_parts.specs.Pending.{Pair}
use Rattle.ds_plan_laws_new.specs.Changed.{with_maps}

-- a cluster's bitmap, and the sector that is written for it
pub record MapWrite : Type 0 where
  pub kind : Kind
  pub cluster : ℕ
  pub map : Bitmap
  pub sector : Sector

abbrev pub map_pair : Geom → MapWrite → Pair
map_pair g w = (place_sector g (places.Bitmap w.kind w.cluster), w.sector)

-- the sectors that are written, in their order
abbrev pub map_pairs : Geom → List MapWrite → List Pair
map_pairs g writes = map (map_pair g) writes

-- the parts with these bitmaps
abbrev pub with_map : Parts → MapWrite → Parts
with_map p w = with_maps p w.kind (slice_set (maps_of p w.kind) w.cluster (Some w.map))

abbrev pub with_all_maps : Parts → List MapWrite → Parts
with_all_maps p writes = fold with_map p writes

-- how an item's bit changes: by its kind, its number, and the bit before and after
abbrev pub BitChange : Type 1
BitChange = Kind → ℕ → Bool → Bool → Type 0

-- the bitmap of a cluster changes so, and the sector spells it
pub record ChangesMap (g : Geom) (p : Parts) (Change : BitChange) (w : MapWrite) : Type 0 where
  pub before : Bitmap
  pub there : part_at (maps_of p w.kind) w.cluster ≡ Some before
  pub same_kind : w.map.kind ≡ before.kind
  pub same_cluster : w.map.cluster ≡ before.cluster
  pub same_count : length w.map.used ≡ length before.used
  pub bits : (item : ℕ) → item < per_cluster g w.kind
      → Change w.kind (w.cluster * per_cluster g w.kind + item) (bit before.used item) (bit w.map.used item)
  pub spells : w.sector.bytes ≡ bits_bytes w.map

-- no bitmap of this cluster is among those that are written
abbrev pub IsUnwritten : List MapWrite → Kind → ℕ → Type 0
IsUnwritten writes kind cluster = (i : ℕ) (w : MapWrite) → slice_get writes i ≡ Some w → w.kind ≡ kind → w.cluster ≡ cluster → ⊥

-- each cluster's bitmap is written once
abbrev pub AreWrittenOnce : List MapWrite → Type 0
AreWrittenOnce writes =
    (i j : ℕ) (w v : MapWrite) → slice_get writes i ≡ Some w → slice_get writes j ≡ Some v → w.kind ≡ v.kind → w.cluster ≡ v.cluster → i ≡ j

-- all bits change so: those of the clusters that are written, and those of the others by staying as they are
pub record ChangesMaps (g : Geom) (p : Parts) (Change : BitChange) (writes : List MapWrite) : Type 0 where
  pub each : (i : ℕ) (w : MapWrite) → slice_get writes i ≡ Some w → ChangesMap g p Change w
  pub once : AreWrittenOnce writes
  pub stays : (kind : Kind) (cluster item : ℕ) (b : Bool) → item < per_cluster g kind → IsUnwritten writes kind cluster
      → Change kind (cluster * per_cluster g kind + item) b b

-- an item is marked after exactly where it was and isn't one of those given up
abbrev pub IsClearedOf : (Kind → List ℕ) → BitChange
IsClearedOf given kind item before after = (after ≡ true) ↔ ((before ≡ true) × ¬ Contains (given kind) item)

-- an item is marked after exactly where it is a new one, or was marked and is none of the old ones
abbrev pub IsReplacedBy : (Kind → List ℕ) → (Kind → List ℕ) → BitChange
IsReplacedBy old new kind item before after = (after ≡ true) ↔ (Contains (new kind) item ⊎ ((before ≡ true) × ¬ Contains (old kind) item))

-- the bits of the items that are given up of each kind are cleared
pub record ClearsMaps (g : Geom) (p : Parts) (given : Kind → List ℕ) (writes : List MapWrite) : Type 0 where
  pub each : (i : ℕ) (w : MapWrite) → slice_get writes i ≡ Some w → ChangesMap g p (IsClearedOf given) w
  pub once : AreWrittenOnce writes
  -- the cluster of each of them is among those that are written
  pub whole : (kind : Kind) (item : ℕ) → Contains (given kind) item
      → (i : ℕ) × ((w : MapWrite) × (slice_get writes i ≡ Some w) × (w.kind ≡ kind) × (w.cluster ≡ item / per_cluster g kind))

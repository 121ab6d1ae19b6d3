-- Bitmaps of several clusters, in which the bits of items change that are given up and that are taken.
use Rattle.std.specs.Prelude.{◌≡◌, ◌⊎◌, ℕ, ◌+◌, ◌*◌, ◌/◌, ◌<◌, true, false, List, length, Contains, slice_get, Some}
use Rattle.ds_base.specs.Geometry.{per_cluster}
use Rattle.ds_base.specs.declared.geometry.Geom.{Geom}
use Rattle.ds_base.specs.declared.geometry.Kind.{Kind}
use Rattle.ds_bitmap.specs.Bits.{Bitmap}
use Rattle.ds_image_tables.specs.Owns.{bit}
use Rattle.ds_image_parts.specs.Parts.{Parts, part_at, maps_of}
use Rattle.ds_plan_laws_size.specs.Written.{AreOnce}

-- the bitmap of one cluster of the kind: of its items those given up are clear, those taken are set, and all others are as they were
pub record MarksCluster (g : Geom) (p : Parts) (kind : Kind) (given taken : List ℕ) (cluster : ℕ) (after : Bitmap) : Type 0 where
  pub before : Bitmap
  pub there : part_at (maps_of p kind) cluster ≡ Some before
  pub same_kind : after.kind ≡ before.kind
  pub same_cluster : after.cluster ≡ before.cluster
  pub count : length after.used ≡ length before.used
  pub gone : (item : ℕ) → item < per_cluster g kind → Contains given (cluster * per_cluster g kind + item) → bit after.used item ≡ false
  pub come : (item : ℕ) → item < per_cluster g kind → Contains taken (cluster * per_cluster g kind + item) → bit after.used item ≡ true
  pub kept : (item : ℕ) → item < per_cluster g kind → ¬ Contains given (cluster * per_cluster g kind + item)
      → ¬ Contains taken (cluster * per_cluster g kind + item) → bit after.used item ≡ bit before.used item

-- bitmaps by the numbers of their clusters, one for each cluster of which an item changes
pub record MarksClusters (g : Geom) (p : Parts) (kind : Kind) (given taken : List ℕ) (maps : List (ℕ × Bitmap)) : Type 0 where
  pub once : AreOnce maps
  pub each : (i : ℕ) (map : ℕ × Bitmap) → slice_get maps i ≡ Some map → MarksCluster g p kind given taken map.0 map.1
  pub all : (x : ℕ) → Contains given x ⊎ Contains taken x
      → (i : ℕ) × ((map : ℕ × Bitmap) × (slice_get maps i ≡ Some map) × (map.0 ≡ x / per_cluster g kind))

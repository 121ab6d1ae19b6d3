-- Items that are taken from clusters of one kind, cluster after cluster.
use Rattle.std.specs.Prelude.{◌≡◌, ℕ, ◌+◌, ◌*◌, ◌/◌, ◌%◌, ◌==◌, Bool, true, false, List, map, filter, slice_get, Some}
use Rattle.std.specs.List.{flat_map}
use Rattle.ds_base.specs.Geometry.{per_cluster}
use Rattle.ds_base.specs.declared.geometry.Geom.{Geom}
use Rattle.ds_base.specs.declared.geometry.Kind.{Kind}
use Rattle.ds_bitmap.specs.Bits.{Bitmap}
use Rattle.ds_image_tables.specs.Owned.{CanMark, with_marks}
use Rattle.ds_image_parts.specs.Parts.{Parts, part_at, maps_of}
use Rattle.ds_plan_laws_size.specs.Written.{AreOnce}

-- the bitmap of a cluster with other bits for some of its items
pub record SetsBits (p : Parts) (kind : Kind) (cluster : ℕ) (items : List ℕ) (to : Bool) (after : Bitmap) : Type 0 where
  pub before : Bitmap
  pub there : part_at (maps_of p kind) cluster ≡ Some before
  pub same_kind : after.kind ≡ before.kind
  pub same_cluster : after.cluster ≡ before.cluster
  pub changed : after.used ≡ with_marks before.used items to

-- what is taken from one cluster: its number, the numbers of the items in it, and its bitmap with them set
pub record Take : Type 0 where
  pub cluster : ℕ
  pub items : List ℕ
  pub map : Bitmap

-- the items that are taken, by their numbers in the kind
abbrev pub items_taken : Geom → Kind → List Take → List ℕ
items_taken g kind takes = flat_map (λ (take : Take). map (λ item. take.cluster * per_cluster g kind + item) take.items) takes

-- the bitmaps by the numbers of their clusters
abbrev pub maps_taken : List Take → List (ℕ × Bitmap)
maps_taken takes = map (λ (take : Take). (take.cluster, take.map)) takes

-- the items of each cluster were clear, and no cluster stands twice
pub record Takes (p : Parts) (kind : Kind) (takes : List Take) : Type 0 where
  pub once : AreOnce (maps_taken takes)
  pub sets : (i : ℕ) (take : Take) → slice_get takes i ≡ Some take → SetsBits p kind take.cluster take.items true take.map
  pub can : (i : ℕ) (take : Take) → (at : slice_get takes i ≡ Some take) → CanMark (sets i take at).before.used take.items

-- the items of one cluster among those of a kind, by their numbers in the cluster
abbrev pub items_in_cluster : Geom → Kind → ℕ → List ℕ → List ℕ
items_in_cluster g kind cluster items = map (λ x. x % per_cluster g kind) (filter (λ x. (x / per_cluster g kind) == cluster) items)

-- the bitmaps of the clusters of the items that are given up, with their bits clear
pub record Gives (g : Geom) (p : Parts) (kind : Kind) (given : List ℕ) (maps : List (ℕ × Bitmap)) : Type 0 where
  pub once : AreOnce maps
  pub sets : (i : ℕ) (m : ℕ × Bitmap) → slice_get maps i ≡ Some m → SetsBits p kind m.0 (items_in_cluster g kind m.0 given) false m.1
  pub all : (i x : ℕ) → slice_get given i ≡ Some x → (j : ℕ) × ((m : ℕ × Bitmap) × (slice_get maps j ≡ Some m) × (m.0 ≡ x / per_cluster g kind))

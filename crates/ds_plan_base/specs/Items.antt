-- Free items of a kind, as a planner looks for them.
use Rattle.std.specs.Prelude.{◌≡◌, ℕ, zero, suc, ◌+◌, ◌*◌, ◌<◌, Bool, true, false, if◌then◌else◌, List, [], ◌∷◌, slice_get, slice_set, option_map, Option, Some, None, Result, Ok, Err}
use Rattle.ds_base.specs.Geometry.{clusters_of, per_cluster}
use Rattle.ds_base.specs.declared.geometry.Geom.{Geom}
use Rattle.ds_base.specs.declared.geometry.Kind.{Kind}
use Rattle.ds_bitmap.specs.Bits.{Bitmap, IsBits}
use Rattle.ds_image_parts.specs.Parts.{Parts, part_at, maps_of}
use Rattle.ds_image.specs.SeenValues.{SeenValue, has_lock, look_of}
use Rattle.ds_layout.specs.Places.{cluster_lock, place_sector}
use Rattle.ds_layout.specs.declared.places.Place.TheVariants as places
use Rattle.ds_plan_base.specs.declared.items.FreeItem.{FreeItem}
use Rattle.ds_plan_base.specs.Bodies.{part_seen}
use Rattle.ds_image.specs.Locks.{cluster_tried}
use Rattle.ds_plan_base.specs.Steps.{after}
use Rattle.ds_plan_base.specs.declared.stops.Ending.TheVariants as endings
use Rattle.ds_plan_base.specs.declared.stops.Stop.{Stop}
use Rattle.ds_plan_base.specs.declared.stops.Stop.TheVariants.{Lock, Done}

-- the least item that is not used
abbrev pub first_clear : List Bool → Option ℕ
first_clear [] = None
first_clear (false ∷ used) = Some 0
first_clear (true ∷ used) = option_map suc (first_clear used)

-- the bitmap of a cluster, once it was read
abbrev pub map_read : Geom → SeenValue → Parts → Kind → ℕ → Result Bitmap Stop
map_read g seen p kind cluster =
    part_seen (place_sector g (places.Bitmap kind cluster)) (look_of seen (place_sector g (places.Bitmap kind cluster))) (part_at (maps_of p kind) cluster)

-- and once the cluster was locked
abbrev pub map_seen : Geom → SeenValue → Parts → Kind → ℕ → Result Bitmap Stop
map_seen g seen p kind cluster =
    if has_lock seen (cluster_lock kind cluster) then map_read g seen p kind cluster else Err (Lock (cluster_lock kind cluster))

-- the least free item of this cluster, or else what there is in those that are tried after it
abbrev pub item_or : ℕ → Bitmap → Option ℕ → Result (Option FreeItem) Stop → Result (Option FreeItem) Stop
item_or cluster map None later = later
item_or cluster map (Some item) later = Ok (Some (record { cluster = cluster; item = item; map = map }))

-- the first free item in the clusters that are tried after so many, of which so many are left
abbrev pub item_from : Geom → ℕ → SeenValue → Parts → Kind → ℕ → ℕ → Result (Option FreeItem) Stop
item_from g slot seen p kind tried zero = Ok None
item_from g slot seen p kind tried (suc left) =
    after (map_seen g seen p kind (cluster_tried g slot kind tried))
    (λ map. item_or (cluster_tried g slot kind tried) map (first_clear map.used) (item_from g slot seen p kind (suc tried) left))

-- the first free item of a kind, by the order in which a host with this slot tries the clusters
abbrev pub free_item : Geom → ℕ → SeenValue → Parts → Kind → Result (Option FreeItem) Stop
free_item g slot seen p kind = item_from g slot seen p kind 0 (clusters_of g kind)

-- an item that is wanted: without one there is no space
abbrev pub wanted_by : Kind → Option FreeItem → Result FreeItem Stop
wanted_by kind None = Err (Done (endings.NoSpace kind))
wanted_by kind (Some free) = Ok free

abbrev pub wanted_item : Geom → ℕ → SeenValue → Parts → Kind → Result FreeItem Stop
wanted_item g slot seen p kind = after (free_item g slot seen p kind) (wanted_by kind)

-- a free item, with the bitmap of its cluster
pub record IsFreeItem (g : Geom) (kind : Kind) (free : FreeItem) : Type 0 where
  pub cluster : free.cluster < clusters_of g kind
  pub is_bits : IsBits g kind free.cluster free.map
  pub is_free : slice_get free.map.used free.item ≡ Some false

-- its number in its kind
abbrev pub number_of : Geom → Kind → FreeItem → ℕ
number_of g kind free = free.cluster * per_cluster g kind + free.item

-- the bitmap with the item used
abbrev pub map_taken : FreeItem → Bitmap
map_taken free = record { kind = free.map.kind; cluster = free.map.cluster; used = slice_set free.map.used free.item true }

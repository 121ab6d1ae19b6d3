-- Items of a kind that are given up: the bitmaps of their clusters without them.
use Rattle.std.specs.Prelude.{ℕ, zero, suc, ◌/◌, ◌%◌, ◌==◌, nat_le, Bool, false, if◌then◌else◌, List, [], ◌∷◌, ◌++◌, map, slice_set, Option, Some, None, Result, Ok, Err}
use Rattle.std.specs.List.{list_any}
use Rattle.ds_base.specs.Geometry.{clusters_of, per_cluster, items_of}
use Rattle.ds_base.specs.declared.geometry.Geom.{Geom}
use Rattle.ds_base.specs.declared.geometry.Kind.{Kind}
use Rattle.ds_bitmap.specs.Bits.{Bitmap, bits_bytes}
use Rattle.ds_image_tables.specs.Owns.{bit}
use Rattle.ds_image_parts.specs.Parts.{Parts}
use Rattle.ds_image_parts.specs.Pending.{Pair}
use Rattle.ds_image.specs.SeenValues.{SeenValue}
use Rattle.ds_jrnl.specs.declared.redo.Redo.{Redo}
use Rattle.ds_layout.specs.Places.{place_sector}
use Rattle.ds_layout.specs.declared.places.Place.TheVariants as places
use Rattle.ds_plan_base.specs.Items.{map_seen}
use Rattle.ds_plan_base.specs.Steps.{after}
use Rattle.ds_plan_base.specs.declared.stops.Stop.{Stop}
use Rattle.ds_plan_base.specs.declared.stops.Stop.TheVariants.{Odd}

-- the bitmaps of clusters, by the numbers of the clusters
abbrev pub Maps : Type 0
Maps = List (ℕ × Bitmap)

-- some of the items are none of the volume
abbrev pub some_outside : Geom → Kind → List ℕ → Bool
some_outside g kind items = list_any (λ n. nat_le (items_of g kind) n) items

-- some of the items are in this cluster
abbrev pub is_touched : Geom → Kind → ℕ → List ℕ → Bool
is_touched g kind cluster items = list_any (λ n. n / per_cluster g kind == cluster) items

-- a bitmap with an item not used
abbrev pub map_given : Bitmap → ℕ → Bitmap
map_given map item = record { kind = map.kind; cluster = map.cluster; used = slice_set map.used item false }

-- the bitmap of a cluster without those of the items that are in it; none where one of them isn't used, or stands twice
abbrev pub map_without : Geom → Kind → ℕ → List ℕ → Bitmap → Option Bitmap
map_without g kind cluster [] map = Some map
map_without g kind cluster (n ∷ items) map =
    if n / per_cluster g kind == cluster
    then (if bit map.used (n % per_cluster g kind) then map_without g kind cluster items (map_given map (n % per_cluster g kind)) else None)
    else map_without g kind cluster items map

-- a bitmap that was read is odd where items of it can't be given up
abbrev pub or_odd : ℕ → Option Bitmap → Result Bitmap Stop
or_odd at None = Err (Odd at)
or_odd at (Some map) = Ok map

-- the bitmap of a cluster without the items, once the cluster was locked and its bitmap read
abbrev pub map_left : Geom → SeenValue → Parts → Kind → ℕ → List ℕ → Result Bitmap Stop
map_left g seen p kind cluster items =
    after (map_seen g seen p kind cluster) (λ map. or_odd (place_sector g (places.Bitmap kind cluster)) (map_without g kind cluster items map))

-- those of the clusters from this one on, of which so many are left, in which some of the items are
abbrev pub maps_from : Geom → SeenValue → Parts → Kind → List ℕ → ℕ → ℕ → Result Maps Stop
maps_from g seen p kind items cluster zero = Ok []
maps_from g seen p kind items cluster (suc left) =
    if is_touched g kind cluster items
    then after (map_left g seen p kind cluster items) (λ map.
    after (maps_from g seen p kind items (suc cluster) left) (λ maps. Ok ((cluster, map) ∷ maps)))
    else maps_from g seen p kind items (suc cluster) left

-- the bitmaps of a kind without these items, of the clusters in which some of them are; where one of them is none of the volume
-- the sector that lists them is odd
abbrev pub maps_left : Geom → SeenValue → Parts → Kind → List ℕ → ℕ → Result Maps Stop
maps_left g seen p kind items listed =
    if some_outside g kind items then Err (Odd listed) else maps_from g seen p kind items 0 (clusters_of g kind)

-- their sectors
abbrev pub map_sector : Geom → Kind → ℕ × Bitmap → Pair
map_sector g kind m = (place_sector g (places.Bitmap kind m.0), record { bytes = bits_bytes m.1 })

abbrev pub map_sectors : Geom → Kind → Maps → List Pair
map_sectors g kind maps = map (map_sector g kind) maps

-- what is written so far, and those sectors
abbrev pub with_maps_left : Geom → Kind → Redo → Maps → Redo
with_maps_left g kind redo maps = record { pairs = record { items = redo.pairs.items ++ map_sectors g kind maps } }

abbrev pub given_up : Geom → SeenValue → Parts → Kind → List ℕ → ℕ → Redo → Result Redo Stop
given_up g seen p kind items listed redo = after (maps_left g seen p kind items listed) (λ maps. Ok (with_maps_left g kind redo maps))

-- Free items that a file gets, as a planner takes them.
use Rattle.std.specs.Prelude.{◌≡◌, ◌≤◌, ℕ, zero, suc, ◌+◌, ◌-◌, ◌*◌, nat_le, if◌then◌else◌, Bool, true, false, List, [], ◌∷◌, ◌++◌, length, map, take, Result, Ok, Err}
use Rattle.ds_base.specs.Geometry.{clusters_of, per_cluster}
use Rattle.ds_base.specs.declared.geometry.Geom.{Geom}
use Rattle.ds_base.specs.declared.geometry.Kind.{Kind}
use Rattle.ds_bitmap.specs.Bits.{Bitmap, bits_bytes}
use Rattle.ds_image_tables.specs.Owned.{with_marks}
use Rattle.ds_image_parts.specs.Parts.{Parts}
use Rattle.ds_image_parts.specs.Pending.{Pair}
use Rattle.ds_image.specs.SeenValues.{SeenValue}
use Rattle.ds_layout.specs.Places.{place_sector}
use Rattle.ds_layout.specs.declared.places.Place.TheVariants as places
use Rattle.ds_plan_base.specs.Items.{map_seen}
use Rattle.ds_image.specs.Locks.{cluster_tried}
use Rattle.ds_plan_base.specs.Steps.{after}
use Rattle.ds_plan_base.specs.declared.stops.Ending.TheVariants as endings
use Rattle.ds_plan_base.specs.declared.stops.Stop.{Stop}
use Rattle.ds_plan_base.specs.declared.stops.Stop.TheVariants.{Done}
use Rattle.ds_plan_resize.specs.Blocks.{AreItems}
use Rattle.ds_plan_resize.specs.declared.taking.Taken.{Taken}

-- the items that are not used, from this number on
abbrev pub clear_from : ℕ → List Bool → List ℕ
clear_from item [] = []
clear_from item (false ∷ used) = item ∷ clear_from (suc item) used
clear_from item (true ∷ used) = clear_from (suc item) used

-- the lowest of them, at most so many
abbrev pub lowest_clear : ℕ → List Bool → List ℕ
lowest_clear most used = take most (clear_from 0 used)

-- the bitmap with these items used, and its sector
abbrev pub map_marked : Bitmap → List ℕ → Bitmap
map_marked map items = record { kind = map.kind; cluster = map.cluster; used = with_marks map.used items true }

abbrev pub map_pair : Geom → Kind → ℕ → Bitmap → Pair
map_pair g kind cluster map = (place_sector g (places.Bitmap kind cluster), record { bytes = bits_bytes map })

-- what is taken: items by their numbers in the kind, and the bitmaps of their clusters
abbrev pub taken_of : List ℕ → List Pair → Taken
taken_of numbers maps = record { numbers = record { items = numbers }; maps = record { items = maps } }

-- with these items of one cluster more; a cluster without any is not written
abbrev pub taken_more : Geom → Kind → ℕ → Bitmap → List ℕ → Taken → Taken
taken_more g kind cluster map_before [] taken = taken
taken_more g kind cluster map_before (item ∷ items) taken =
    taken_of (taken.numbers.items ++ map (λ item. cluster * per_cluster g kind + item) (item ∷ items))
    (taken.maps.items ++ map_pair g kind cluster (map_marked map_before (item ∷ items)) ∷ [])

-- so many items, with those of the clusters that are tried after so many others, of which so many are left; otherwise there is no space
abbrev pub items_from : Geom → ℕ → SeenValue → Parts → Kind → ℕ → Taken → ℕ → ℕ → Result Taken Stop
items_from g slot seen p kind count taken tried zero =
    if nat_le count (length taken.numbers.items) then Ok taken else Err (Done (endings.NoSpace kind))
items_from g slot seen p kind count taken tried (suc left) =
    if nat_le count (length taken.numbers.items) then Ok taken
    else after (map_seen g seen p kind (cluster_tried g slot kind tried))
    (λ map. items_from g slot seen p kind count
    (taken_more g kind (cluster_tried g slot kind tried) map (lowest_clear (count - length taken.numbers.items) map.used) taken) (suc tried) left)

-- so many items of a kind, the lowest of each cluster, by the order in which a host with this slot tries the clusters
abbrev pub items_wanted : Geom → ℕ → SeenValue → Parts → Kind → ℕ → Result Taken Stop
items_wanted g slot seen p kind count = items_from g slot seen p kind count (taken_of [] []) 0 (clusters_of g kind)

-- so many items of the volume, with the bitmaps of at most as many clusters as there are
pub record IsTaken (g : Geom) (kind : Kind) (count : ℕ) (taken : Taken) : Type 0 where
  pub many : length taken.numbers.items ≡ count
  pub items : AreItems g kind taken.numbers.items
  pub few_maps : length taken.maps.items ≤ 8

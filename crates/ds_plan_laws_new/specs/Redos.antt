-- The pairs of the redos that planners make.
use Rattle.std.specs.Prelude.{ℕ, ◌<◌, Bool, true, false, List, [], ◌∷◌}
use Rattle.ds_base.specs.declared.geometry.Geom.{Geom}
use Rattle.ds_base.specs.declared.geometry.Kind.TheVariants.{Fd, Sb}
use Rattle.ds_base.specs.declared.sectors.Sector.{Sector}
use Rattle.ds_layout.specs.Places.{place_sector}
use Rattle.ds_layout.specs.declared.places.Place.TheVariants as places
use Rattle.ds_image_parts.specs.Pending.{Pair}

-- an object made for a free room of a directory: the sectors in their order
abbrev pub filled_pairs : Geom → ℕ → ℕ → ℕ → Sector → Sector → Sector → List Pair
filled_pairs g c o n map_sector new_sector block_sector =
    (place_sector g (places.Bitmap Fd c), map_sector) ∷ (place_sector g (places.Body o), new_sector) ∷ (place_sector g (places.SubBlock n), block_sector) ∷ []

-- two pairs in this order or in the other
abbrev pub two_pairs : Bool → Pair → Pair → List Pair → List Pair
two_pairs false a b pairs = a ∷ b ∷ pairs
two_pairs true a b pairs = b ∷ a ∷ pairs

-- an object made for a directory that lists one sub-block more: the directory's body stands before the new one, or behind it
abbrev pub grown_pairs : Geom → Bool → ℕ → ℕ → ℕ → ℕ → ℕ → Sector → Sector → Sector → Sector → Sector → List Pair
grown_pairs g swapped c c' d o n map_sector sub_map_sector dir_sector new_sector block_sector =
    (place_sector g (places.Bitmap Fd c), map_sector) ∷ (place_sector g (places.Bitmap Sb c'), sub_map_sector)
    ∷ two_pairs swapped (place_sector g (places.Body d), dir_sector) (place_sector g (places.Body o), new_sector)
    ((place_sector g (places.SubBlock n), block_sector) ∷ [])

-- whether descriptor o stands before d, as the order of the pairs wants
abbrev pub AreInOrder : Bool → ℕ → ℕ → Type 0
AreInOrder false d o = d < o
AreInOrder true d o = o < d

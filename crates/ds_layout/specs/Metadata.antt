-- The metadata of a volume: its bodies, bitmaps, sub-blocks and pointer blocks.
use Rattle.std.specs.Prelude.{◌≡◌, ℕ, Bool, true, false, List, take}
use Rattle.ds_base.specs.declared.geometry.Geom.{Geom}
use Rattle.ds_base.specs.declared.sectors.Sector.{Sector}
use Rattle.ds_layout.specs.Places.{IsPlace, place_sector, blocks_at}
use Rattle.ds_layout.specs.declared.places.Place.{Place}
use Rattle.ds_layout.specs.declared.places.Place.TheVariants.{Bitmap, Body, SubBlock, PtrBlock}

-- whether a place is that of a body, a bitmap, a sub-block or a pointer block
abbrev pub is_metadata : Place → Bool
is_metadata (Body object) = true
is_metadata (Bitmap kind cluster) = true
is_metadata (SubBlock n) = true
is_metadata (PtrBlock n) = true
is_metadata _ = false

-- the sector of a body, a bitmap, a sub-block or a pointer block
pub record IsMetadata (g : Geom) (at : ℕ) : Type 0 where
  pub place : Place
  pub is_place : IsPlace g place
  pub here : place_sector g place ≡ at
  pub kept : is_metadata place ≡ true

-- the sectors of a store in front of its file blocks: all metadata are among them
abbrev pub front_of : Geom → List Sector → List Sector
front_of g sectors = take (blocks_at g) sectors

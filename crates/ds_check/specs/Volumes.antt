-- Which sectors are those of a volume.
use Rattle.std.specs.Prelude.{◌≡◌, ◌≢◌, ◌⊎◌, ℕ, List, length, min, slice_get}
use Rattle.ds_base.specs.declared.geometry.Geom.{Geom}
use Rattle.ds_base.specs.declared.sectors.Sector.{Sector}
use Rattle.ds_layout.specs.Places.{place_sector, total_of}
use Rattle.ds_layout.specs.declared.places.Place.TheVariants as places
use Rattle.ds_layout.specs.Volume.{IsVol, vol_bytes}
use Rattle.ds_image_parts.specs.Looks.{HasBytes}

-- the first sector is the information of a volume of this geometry and this id
abbrev pub SpellsVolume : List Sector → Geom → List ℕ → Type 0
SpellsVolume sectors g id = IsVol g id × HasBytes (slice_get sectors) (place_sector g places.VolInfo) (vol_bytes g id)

-- there is no first sector, or it is the information of no volume
pub record HasNoInfo (sectors : List Sector) (at : ℕ) : Type 0 where
  pub none : (g : Geom) (id : List ℕ) → ¬ SpellsVolume sectors g id
  pub here : at ≡ 0

-- there are fewer sectors than the volume has, and this is the first that isn't there, or there are more, and this is the
-- first behind the volume
pub record HasOtherSize (sectors : List Sector) (at : ℕ) : Type 0 where
  pub geom : Geom
  pub id : List ℕ
  pub spelled : SpellsVolume sectors geom id
  pub other : length sectors ≢ total_of geom
  pub here : at ≡ min (length sectors) (total_of geom)

-- why these sectors aren't those of a volume, with the sector that tells it
abbrev pub IsBadImage : List Sector → ℕ → Type 0
IsBadImage sectors at = HasNoInfo sectors at ⊎ HasOtherSize sectors at

-- these are the sectors of a volume of this geometry and this id
pub record AreOfVolume (sectors : List Sector) (g : Geom) (id : List ℕ) : Type 0 where
  pub spelled : SpellsVolume sectors g id
  pub size : length sectors ≡ total_of g

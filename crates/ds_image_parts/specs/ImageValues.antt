-- What contracts see of an `Image`.
use Rattle.std.specs.Prelude.{◌≡◌, List, length, slice_get}
use Rattle.ds_base.specs.Geometry.{IsGeom}
use Rattle.ds_base.specs.declared.geometry.Geom.{Geom}
use Rattle.ds_base.specs.declared.sectors.Sector.{Sector}
use Rattle.ds_layout.specs.Places.{blocks_at}
use Rattle.ds_image_parts.specs.Looks.{AreBlocks}

-- the geometry of a volume, and the sectors in front of its file blocks with the pending pairs laid over them
pub record ImageValue : Type 0 where
  pub geom : Geom
  pub sectors : List Sector

-- these are all sectors in front of the file blocks, of 512 bytes each
pub record IsImage (g : Geom) (sectors : List Sector) : Type 0 where
  pub is_geom : IsGeom g
  pub size : length sectors ≡ blocks_at g
  pub blocks : AreBlocks (slice_get sectors)

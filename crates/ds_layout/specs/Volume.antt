-- The sectors that spell the volume information and the file system information.
use Rattle.std.specs.Prelude.{◌≡◌, ℕ, List, [], ◌∷◌, length, codes}
use Rattle.ds_base.specs.declared.geometry.Geom.{Geom}
use Rattle.ds_base.specs.declared.geometry.Kind.TheVariants.{Fd, Sb, Pb, Fb}
use Rattle.ds_base.specs.Geometry.{IsGeom, clusters_of, per_cluster}
use Rattle.ds_bytes.specs.Fields.{zeros, Field, Num, Raw, sector_of_fields}
use Rattle.ds_layout.specs.Places.{total_of}

-- an id has 16 bytes
abbrev pub IsId : List ℕ → Type 0
IsId volume = length volume ≡ 16

-- a geometry has four counts of clusters and four of items
pub record HasShape (g : Geom) : Type 0 where
  pub four_clusters : length g.clusters ≡ 4
  pub four_items : length g.items ≡ 4

-- a geometry whose fields are in their ranges, and an id
pub record IsVol (g : Geom) (volume : List ℕ) : Type 0 where
  pub shape : HasShape g
  pub is_geom : IsGeom g
  pub is_id : IsId volume

-- the fields of the volume information: the mark, version 5, the number of sectors, the id, the slots, the sectors of a
-- file block, and for each kind its clusters and the items of each
abbrev pub vol_fields : Geom → List ℕ → List Field
vol_fields g volume =
    Raw 6 (codes "DSVOL5") ∷ Raw 2 (zeros 2) ∷ Num 4 5 ∷ Num 4 (total_of g) ∷ Raw 16 volume ∷ Num 2 g.slots ∷ Num 2 g.block
    ∷ Num 2 (clusters_of g Fd) ∷ Num 2 (per_cluster g Fd) ∷ Num 2 (clusters_of g Sb) ∷ Num 2 (per_cluster g Sb)
    ∷ Num 2 (clusters_of g Pb) ∷ Num 2 (per_cluster g Pb) ∷ Num 2 (clusters_of g Fb) ∷ Num 2 (per_cluster g Fb) ∷ []

-- the sector of the volume information
unfoldable pub vol_bytes : Geom → List ℕ → List ℕ
vol_bytes g volume = sector_of_fields (vol_fields g volume)

-- the fields of the file system information: the mark, version 5, a zero, the id, and the root's object number 0
abbrev pub fs_fields : List ℕ → List Field
fs_fields volume =
    Raw 4 (codes "DSFS") ∷ Raw 4 (zeros 4) ∷ Num 4 5 ∷ Num 4 0 ∷ Raw 16 volume ∷ Num 4 0 ∷ []

-- the sector of the file system information
unfoldable pub fs_bytes : List ℕ → List ℕ
fs_bytes volume = sector_of_fields (fs_fields volume)

-- The regions of a volume as they are computed, and what the ranges of a geometry make of their sizes.
use Rattle.std.specs.Prelude.{◌≡◌, ◌*◌, ◌≤◌}
use Rattle.ds_base.specs.declared.geometry.Geom.{Geom}
use Rattle.ds_base.specs.declared.geometry.Kind.TheVariants.{Fd, Sb, Pb, Fb}
use Rattle.ds_base.specs.Geometry.{clusters_of, items_of}
use Rattle.ds_layout.specs.declared.regions.Regions.{Regions}
use Rattle.ds_layout.specs.Places.{journals_at, clusters_at, descriptors_at, sub_blocks_at, ptr_blocks_at, blocks_at, total_of}

-- each region begins where it does
pub record AreRegions (g : Geom) (r : Regions) : Type 0 where
  pub journals : r.journals ≡ journals_at g
  pub clusters : r.clusters ≡ clusters_at g
  pub descriptors : r.descriptors ≡ descriptors_at g
  pub sub_blocks : r.sub_blocks ≡ sub_blocks_at g
  pub ptr_blocks : r.ptr_blocks ≡ ptr_blocks_at g
  pub blocks : r.blocks ≡ blocks_at g
  pub ends : r.end ≡ total_of g

-- the most of each size
pub record HasBounds (g : Geom) : Type 0 where
  pub slots : g.slots ≤ 16
  pub block_from : 1 ≤ g.block
  pub block_to : g.block ≤ 2048
  pub fd_clusters : clusters_of g Fd ≤ 8
  pub sb_clusters : clusters_of g Sb ≤ 8
  pub pb_clusters : clusters_of g Pb ≤ 8
  pub fb_clusters : clusters_of g Fb ≤ 8
  pub fd_items : items_of g Fd ≤ 2048
  pub sb_items : items_of g Sb ≤ 30720
  pub pb_items : items_of g Pb ≤ 30720
  pub fb_items : items_of g Fb ≤ 30720
  pub block_sectors : g.block * items_of g Fb ≤ 62914560

-- What a planner of Create or Mkdir has found out, and what its change leaves.
use Rattle.std.specs.Prelude.{◌≡◌, ℕ, ◌+◌, ◌*◌, true, List}
use Rattle.ds_base.specs.Geometry.{per_cluster}
use Rattle.ds_base.specs.Names.{IsName}
use Rattle.ds_base.specs.declared.geometry.Geom.{Geom}
use Rattle.ds_base.specs.declared.geometry.Kind.TheVariants.{Fd, Sb}
use Rattle.ds_base.specs.declared.names.Key.{Key}
use Rattle.ds_base.specs.declared.sectors.Sector.{Sector}
use Rattle.ds_bitmap.specs.Bits.{Bitmap}
use Rattle.ds_dir.specs.declared.sub_block.Entry.{Entry}
use Rattle.ds_dir.specs.declared.sub_block.SubBlock.{SubBlock}
use Rattle.ds_fd.specs.declared.body.Body.{Body}
use Rattle.ds_tree.specs.Nodes.{FileTree}
use Rattle.ds_tree.specs.Steps.{Does}
use Rattle.ds_tree.specs.declared.calls.CallOf.{CallOf}
use Rattle.ds_tree.specs.declared.calls.TreeReply.{TreeReply}
use Rattle.ds_image_parts.specs.Parts.{Parts}
use Rattle.ds_image.specs.Sound.{StandsFor}
use Rattle.ds_plan_laws_new.specs.Beginning.{SetsBit, Begins}
use Rattle.ds_plan_laws_new.specs.Entering.{LacksName, AddsRooms}

-- an object can be made for an unused descriptor, of this cluster, and a name that the directory of the key lacks: its
-- entry, its body, and the cluster's bitmap with its bit set
pub record ReadyToMake (g : Geom) (p : Parts) (key : Key) (dir : Body) (o : ℕ) (e : Entry) (new : Body) (cluster : ℕ) (map : Bitmap) : Type 0 where
  pub item : ℕ
  pub is_item : cluster * per_cluster g Fd + item ≡ o
  pub marks : SetsBit p Fd cluster item true map
  pub begins : Begins p o e new
  pub lacks : LacksName p key.object dir e.name
  pub life : dir.birth ≡ key.birth
  pub named : IsName e.name

-- and sub-block n, which is of this cluster and which no object lists, can be given to the directory
pub record ReadyToGrow (g : Geom) (p : Parts) (dir : Body) (n : ℕ) (e : Entry) (grown : Body) (cluster : ℕ) (map : Bitmap) (block : SubBlock) : Type 0 where
  pub item : ℕ
  pub is_item : cluster * per_cluster g Sb + item ≡ n
  pub marks : SetsBit p Sb cluster item true map
  pub adds : AddsRooms p dir n e grown block

-- an image that stands for what the call makes of the tree
pub record Leaves (g : Geom) (t : FileTree) (call : CallOf Key) (reply : TreeReply) (image : List Sector) : Type 0 where
  pub u : FileTree
  pub stands : StandsFor g image u
  pub does : Does g t call reply u

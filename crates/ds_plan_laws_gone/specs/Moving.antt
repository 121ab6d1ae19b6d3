-- What a planner has found out of an entry that is to stand under another name.
use Rattle.std.specs.Prelude.{◌≡◌, ◌≢◌, ℕ, ◌+◌, ◌*◌, true, slice_get, slice_set, Some}
use Rattle.ds_base.specs.Geometry.{per_cluster}
use Rattle.ds_base.specs.Names.{IsName}
use Rattle.ds_base.specs.declared.geometry.Geom.{Geom}
use Rattle.ds_base.specs.declared.geometry.Kind.TheVariants.{Sb}
use Rattle.ds_base.specs.declared.names.Key.{Key}
use Rattle.ds_base.specs.declared.names.NodeKind.TheVariants as kinds
use Rattle.ds_bitmap.specs.Bits.{Bitmap}
use Rattle.ds_dir.specs.declared.sub_block.Entry.{Entry}
use Rattle.ds_dir.specs.declared.sub_block.SubBlock.{SubBlock}
use Rattle.ds_fd.specs.declared.body.Body.{Body}
use Rattle.ds_image_parts.specs.Parts.{Parts, part_at}
use Rattle.ds_plan_laws_new.specs.Beginning.{SetsBit}
use Rattle.ds_plan_laws_new.specs.Entering.{subs_in, LacksName, AddsRooms}
use Rattle.ds_plan_laws_gone.specs.Leaving.{HasDir, EmptiesRoom}

-- the same object under another name
pub record IsRenamed (e fresh : Entry) : Type 0 where
  pub same_key : fresh.key ≡ e.key
  pub same_kind : fresh.kind ≡ e.kind
  pub named : IsName fresh.name

-- sub-block n, which the directory lists, with another entry in the room of one
pub record RewritesRoom (p : Parts) (dir : Body) (n : ℕ) (e fresh : Entry) (after : SubBlock) : Type 0 where
  pub place : ℕ
  pub room : ℕ
  pub before : SubBlock
  pub listed : slice_get (subs_in dir) place ≡ Some n
  pub there : part_at p.subs n ≡ Some before
  pub used : slice_get before.rooms room ≡ Some (Some e)
  pub rewritten : after.rooms ≡ slice_set before.rooms room (Some fresh)

-- an entry can stand under another name in its directory, of which both keys are: it keeps its room
pub record ReadyToRename (p : Parts) (key to : Key) (dir : Body) (e fresh : Entry) (n : ℕ) (block : SubBlock) : Type 0 where
  pub same_object : to.object ≡ key.object
  pub lacks : LacksName p key.object dir fresh.name
  pub life : dir.birth ≡ key.birth
  pub to_life : dir.birth ≡ to.birth
  pub rewrites : RewritesRoom p dir n e fresh block
  pub renamed : IsRenamed e fresh

-- an entry of a file can leave its directory for another one, which lacks the name
pub record ReadyToLeave (p : Parts) (key to : Key) (dir to_dir : Body) (e fresh : Entry) (n : ℕ) (block : SubBlock) : Type 0 where
  pub apart : key.object ≢ to.object
  pub in_dir : HasDir p key.object dir
  pub life : dir.birth ≡ key.birth
  pub empties : EmptiesRoom p dir n e block
  pub lacks : LacksName p to.object to_dir fresh.name
  pub to_life : to_dir.birth ≡ to.birth
  pub renamed : IsRenamed e fresh
  pub is_file : e.kind ≡ kinds.File

-- and sub-block m, which is of this cluster and which no object lists, can be given to the other one
pub record ReadyToAdd (g : Geom) (p : Parts) (to_dir : Body) (m : ℕ) (fresh : Entry) (grown : Body) (cluster : ℕ) (map : Bitmap) (block : SubBlock) : Type 0 where
  pub item : ℕ
  pub is_item : cluster * per_cluster g Sb + item ≡ m
  pub marks : SetsBit p Sb cluster item true map
  pub adds : AddsRooms p to_dir m fresh grown block

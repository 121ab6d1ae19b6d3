-- What is known of a directory that gets a room or an entry.
use Rattle.std.specs.Prelude.{◌≡◌, ◌<◌, slice_get, Some, None}
use Rattle.ds_base.specs.declared.names.NodeKind.TheVariants as kinds
use Rattle.ds_dir.specs.SubBlock.{IsSubBlock}
use Rattle.ds_dir.specs.declared.sub_block.Entry.{Entry}
use Rattle.ds_fd.specs.Body.{IsBody}
use Rattle.ds_fd.specs.declared.body.Body.{Body}
use Rattle.ds_plan_base.specs.declared.entries.Found.{Found}
use Rattle.ds_plan_base.specs.declared.rooms.FreeRoom.{FreeRoom}

-- a directory that can get one sub-block more
pub record CanGrow (dir : Body) : Type 0 where
  pub is_body : IsBody dir
  pub is_dir : dir.kind ≡ Some kinds.Dir
  pub few : dir.count < 96

-- a room of a sub-block that is free
pub record IsFreeRoom (free : FreeRoom) : Type 0 where
  pub is_sub : IsSubBlock free.block
  pub is_free : slice_get free.block.rooms free.room ≡ Some None

-- a room of a sub-block with an entry of this key
pub record IsFoundRoom (found : Found) : Type 0 where
  pub is_sub : IsSubBlock found.block
  pub entry : Entry
  pub used : slice_get found.block.rooms found.room ≡ Some (Some entry)
  pub key : found.key ≡ entry.key

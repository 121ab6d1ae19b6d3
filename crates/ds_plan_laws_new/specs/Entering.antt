-- What a planner has found out of a directory that is to have one more entry.
use Rattle.std.specs.Prelude.{◌≡◌, ℕ, ◌+◌, ◌*◌, List, [], ◌∷◌, length, slice_get, slice_set, Some, None}
use Rattle.std.specs.FinMap as maps
use Rattle.ds_base.specs.declared.names.Key.{Key}
use Rattle.ds_base.specs.declared.names.NodeKind.{NodeKind}
use Rattle.ds_base.specs.declared.names.NodeKind.TheVariants as kinds
use Rattle.ds_dir.specs.declared.sub_block.Entry.{Entry}
use Rattle.ds_dir.specs.declared.sub_block.SubBlock.{SubBlock}
use Rattle.ds_fd.specs.Body.{IsBody}
use Rattle.ds_fd.specs.declared.body.Body.{Body}
use Rattle.ds_tree.specs.declared.calls.CallOf.{CallOf}
use Rattle.ds_tree.specs.declared.calls.CallOf.TheVariants.{Mkdir, Create}
use Rattle.ds_image_parts.specs.Objects.{subs_by, used_rooms, entries_of}
use Rattle.ds_image_parts.specs.Parts.{Parts, part_at}

-- the sub-blocks of a directory
abbrev pub subs_in : Body → List ℕ
subs_in dir = subs_by dir (Some kinds.Dir)

-- descriptor d is a directory with this body, and none of its entries has the name
pub record LacksName (p : Parts) (d : ℕ) (dir : Body) (name : List ℕ) : Type 0 where
  pub there : part_at p.bodies d ≡ Some dir
  pub is_dir : dir.kind ≡ Some kinds.Dir
  pub absent : maps.get (entries_of p (subs_in dir)) name ≡ None

-- sub-block n, which the directory lists, with the entry in a room that was free
pub record FillsRoom (p : Parts) (dir : Body) (n : ℕ) (e : Entry) (after : SubBlock) : Type 0 where
  pub place : ℕ
  pub room : ℕ
  pub before : SubBlock
  pub listed : slice_get (subs_in dir) place ≡ Some n
  pub there : part_at p.subs n ≡ Some before
  pub free : slice_get before.rooms room ≡ Some None
  pub filled : after.rooms ≡ slice_set before.rooms room (Some e)

-- all rooms of the directory are used, and it lists one sub-block more, which has the entry alone
pub record AddsRooms (p : Parts) (dir : Body) (n : ℕ) (e : Entry) (grown : Body) (after : SubBlock) : Type 0 where
  pub full : length (used_rooms p (subs_in dir)) ≡ 4 * dir.count
  pub is_body : IsBody grown
  pub object : grown.object ≡ dir.object
  pub kind : grown.kind ≡ dir.kind
  pub birth : grown.birth ≡ dir.birth
  pub count : grown.count ≡ dir.count + 1
  pub addresses : grown.addresses ≡ slice_set dir.addresses dir.count n
  pub alone : after.rooms ≡ Some e ∷ None ∷ None ∷ None ∷ []

-- the call that makes an object of this kind
abbrev pub make_call : NodeKind → Key → List ℕ → CallOf Key
make_call kinds.Dir dir name = Mkdir dir name
make_call kinds.File dir name = Create dir name

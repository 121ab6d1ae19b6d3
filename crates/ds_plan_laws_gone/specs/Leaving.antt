-- What a planner has found out of an object that goes, and of its entry.
use Rattle.std.specs.Prelude.{◌≡◌, ℕ, List, [], ◌∷◌, slice_get, slice_set, Some, None}
use Rattle.ds_base.specs.declared.geometry.Geom.{Geom}
use Rattle.ds_base.specs.declared.geometry.Kind.{Kind}
use Rattle.ds_base.specs.declared.geometry.Kind.TheVariants.{Fd, Sb, Pb, Fb}
use Rattle.ds_base.specs.declared.names.Key.{Key}
use Rattle.ds_base.specs.declared.names.NodeKind.{NodeKind}
use Rattle.ds_base.specs.declared.names.NodeKind.TheVariants as kinds
use Rattle.ds_dir.specs.declared.sub_block.Entry.{Entry}
use Rattle.ds_dir.specs.declared.sub_block.SubBlock.{SubBlock}
use Rattle.ds_fd.specs.Body.{IsBody}
use Rattle.ds_fd.specs.declared.body.Body.{Body}
use Rattle.ds_tree.specs.declared.calls.CallOf.{CallOf}
use Rattle.ds_tree.specs.declared.calls.CallOf.TheVariants.{Remove, Rmdir}
use Rattle.ds_image_parts.specs.Objects.{subs_of, ptrs_of, blocks_of, used_rooms}
use Rattle.ds_image_parts.specs.Parts.{Parts, part_at}
use Rattle.ds_plan_laws_new.specs.Entering.{subs_in}
use Rattle.ds_plan_laws_gone.specs.MapWrites.{MapWrite, with_all_maps, ClearsMaps}

-- descriptor d is a directory with this body
pub record HasDir (p : Parts) (d : ℕ) (dir : Body) : Type 0 where
  pub there : part_at p.bodies d ≡ Some dir
  pub is_dir : dir.kind ≡ Some kinds.Dir

-- sub-block n, which the directory lists, without the entry that a room had
pub record EmptiesRoom (p : Parts) (dir : Body) (n : ℕ) (e : Entry) (after : SubBlock) : Type 0 where
  pub place : ℕ
  pub room : ℕ
  pub before : SubBlock
  pub listed : slice_get (subs_in dir) place ≡ Some n
  pub there : part_at p.subs n ≡ Some before
  pub used : slice_get before.rooms room ≡ Some (Some e)
  pub emptied : after.rooms ≡ slice_set before.rooms room None

-- the body of a descriptor without entries, as it ends its life: no longer in use, in the same life
pub record EndsLife (p : Parts) (o : ℕ) (old new : Body) : Type 0 where
  pub there : part_at p.bodies o ≡ Some old
  pub bare : used_rooms p (subs_of (Some old)) ≡ []
  pub is_body : IsBody new
  pub object : new.object ≡ o
  pub unused : new.kind ≡ None
  pub birth : new.birth ≡ old.birth

-- the items of each kind that go with a descriptor of this body: itself, and what it lists
abbrev pub given_up : Parts → ℕ → Body → Kind → List ℕ
given_up p o old Fd = o ∷ []
given_up p o old Sb = subs_of (Some old)
given_up p o old Pb = ptrs_of (Some old)
given_up p o old Fb = blocks_of p (Some old)

-- an object can go with its entry in the directory of the key: its body, the sub-block, and the bitmaps of its items
pub record ReadyToGo (g : Geom) (p : Parts) (key : Key) (dir : Body) (e : Entry) (old new : Body) (n : ℕ) (block : SubBlock) (writes : List MapWrite) : Type 0 where
  pub in_dir : HasDir p key.object dir
  pub life : dir.birth ≡ key.birth
  pub empties : EmptiesRoom p dir n e block
  pub ends : EndsLife p e.key.object old new
  pub clears : ClearsMaps g p (given_up p e.key.object old) writes

-- the parts with these bitmaps, and with a body and a sub-block in the place of others
abbrev pub changed_parts : Parts → List MapWrite → ℕ → Body → ℕ → SubBlock → Parts
changed_parts p writes o body n block = record (with_all_maps p writes) {
  bodies = slice_set (with_all_maps p writes).bodies o (Some body);
  subs = slice_set (with_all_maps p writes).subs n (Some block);
}

-- the call by which an object of this kind goes
abbrev pub go_call : NodeKind → Key → List ℕ → CallOf Key
go_call kinds.Dir dir name = Rmdir dir name
go_call kinds.File dir name = Remove dir name

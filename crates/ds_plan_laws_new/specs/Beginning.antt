-- What a planner has found out of a descriptor that is to begin a new life, and of a bit that is to change.
use Rattle.std.specs.Prelude.{◌≡◌, ℕ, ◌+◌, Bool, not, slice_get, slice_set, Some, None}
use Rattle.ds_base.specs.declared.geometry.Kind.{Kind}
use Rattle.ds_bitmap.specs.Bits.{Bitmap}
use Rattle.ds_dir.specs.declared.sub_block.Entry.{Entry}
use Rattle.ds_fd.specs.Body.{IsBody}
use Rattle.ds_fd.specs.declared.body.Body.{Body}
use Rattle.ds_image_parts.specs.Parts.{Parts, part_at, maps_of}

-- the bitmap of a cluster of the kind, in which the bit of one item changes to this
pub record SetsBit (p : Parts) (kind : Kind) (cluster item : ℕ) (to : Bool) (after : Bitmap) : Type 0 where
  pub before : Bitmap
  pub there : part_at (maps_of p kind) cluster ≡ Some before
  pub was : slice_get before.used item ≡ Some (not to)
  pub changed : after.used ≡ slice_set before.used item to
  pub same_kind : after.kind ≡ before.kind
  pub same_cluster : after.cluster ≡ before.cluster

-- the body of a descriptor that is not in use, as it begins its next life: an empty object, which this entry names
pub record Begins (p : Parts) (o : ℕ) (e : Entry) (new : Body) : Type 0 where
  pub before : Body
  pub there : part_at p.bodies o ≡ Some before
  pub unused : before.kind ≡ None
  pub is_body : IsBody new
  pub object : new.object ≡ o
  pub kind : new.kind ≡ Some e.kind
  pub birth : new.birth ≡ before.birth + 1
  pub empty : new.count ≡ 0
  pub named_object : e.key.object ≡ o
  pub named_birth : e.key.birth ≡ new.birth

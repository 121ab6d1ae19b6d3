-- What a planner of Resize has found out of a file, and which parts it leaves.
use Rattle.std.specs.Prelude.{◌≡◌, ◌≢◌, ℕ, List, ◌++◌, take, drop, slice_set, Some}
use Rattle.ds_base.specs.declared.geometry.Kind.{Kind}
use Rattle.ds_base.specs.declared.names.NodeKind.TheVariants as kinds
use Rattle.ds_fd.specs.Body.{IsBody}
use Rattle.ds_fd.specs.declared.body.Body.{Body}
use Rattle.ds_tree.specs.Counts.{pointer_blocks}
use Rattle.ds_image_tables.specs.Owned.{CanMark}
use Rattle.ds_image_tables.specs.Owns.{IsAt}
use Rattle.ds_image_parts.specs.Parts.{Parts, part_at, AllSpelled, maps_of, bits_in}
use Rattle.ds_image.specs.Sound.{ptr_lists}
use Rattle.ds_plan_laws_size.specs.Pages.{ptrs_in, blocks_in, SpellsBlocks}
use Rattle.ds_plan_laws_size.specs.Remarks.{Remarks}

-- descriptor o is a file with this body, and the second body is that of the same file with this size
pub record IsResized (p : Parts) (o : ℕ) (b b' : Body) (size : ℕ) : Type 0 where
  pub there : part_at p.bodies o ≡ Some b
  pub file : b.kind ≡ Some kinds.File
  pub is_body : IsBody b'
  pub object : b'.object ≡ b.object
  pub kind : b'.kind ≡ Some kinds.File
  pub birth : b'.birth ≡ b.birth
  pub count : b'.count ≡ size

-- the blocks of the file, cut off or with these added
abbrev pub blocks_after : Parts → Body → ℕ → List ℕ → List ℕ
blocks_after p b size added = take size (blocks_in p b) ++ added

-- the second parts are the first with another size of the file: it keeps the first of its blocks and of its pointer blocks,
-- and clear items are added to them; pointer blocks that other files list stay the same
pub record ResizesParts (p q : Parts) (o : ℕ) (b b' : Body) (size : ℕ) (added pointers : List ℕ) : Type 0 where
  pub body : IsResized p o b b' size
  pub bodies : q.bodies ≡ slice_set p.bodies o (Some b')
  pub subs : q.subs ≡ p.subs
  pub fd_maps : q.fd_maps ≡ p.fd_maps
  pub sb_maps : q.sb_maps ≡ p.sb_maps
  pub maps : (kind : Kind) → AllSpelled (maps_of q kind)
  pub others : (k i n : ℕ) → k ≢ o → IsAt (ptr_lists p) k i n → part_at q.ptrs n ≡ part_at p.ptrs n
  pub spells : SpellsBlocks q b' (blocks_after p b size added)
  pub lists : ptrs_in b' ≡ take (pointer_blocks size) (ptrs_in b) ++ pointers
  pub pointers_free : CanMark (bits_in p.pb_maps) pointers
  pub pointer_marks : Remarks (bits_in p.pb_maps) (drop (pointer_blocks size) (ptrs_in b)) pointers (bits_in q.pb_maps)
  pub blocks_free : CanMark (bits_in p.fb_maps) added
  pub block_marks : Remarks (bits_in p.fb_maps) (drop size (blocks_in p b)) added (bits_in q.fb_maps)

-- What a planner of Resize has found out of a file, and what it writes.
use Rattle.std.specs.Prelude.{◌≡◌, ℕ, ◌-◌, ◌≤◌, List, ◌∷◌, ◌++◌, length, map, take, drop}
use Rattle.ds_base.specs.declared.geometry.Geom.{Geom}
use Rattle.ds_base.specs.declared.geometry.Kind.TheVariants.{Pb, Fb}
use Rattle.ds_bitmap.specs.Bits.{Bitmap}
use Rattle.ds_fd.specs.declared.body.Body.{Body}
use Rattle.ds_image_tables.specs.Owned.{CanMark}
use Rattle.ds_image_parts.specs.Parts.{Parts, bits_in}
use Rattle.ds_ptr.specs.declared.ptr_block.PtrBlock.{PtrBlock}
use Rattle.ds_plan_laws_size.specs.Clusters.{MarksClusters}
use Rattle.ds_plan_laws_size.specs.Pages.{ptrs_in, blocks_in}
use Rattle.ds_plan_laws_size.specs.Pointers.{WritesPages}
use Rattle.ds_plan_laws_size.specs.Resizing.{IsResized, blocks_after}
use Rattle.ds_plan_laws_size.specs.Written.{Written, MapPart, BodyPart, PtrPart}
use Rattle.ds_tree.specs.Counts.{pointer_blocks}

-- the file can have this size: clear blocks are added to it, and clear pointer blocks; the bitmaps of all clusters of which
-- items are given up or taken, its body and its changed pointer blocks are as they are to be
pub record ReadyToResize (g : Geom) (p : Parts) (o : ℕ) (b b' : Body) (size : ℕ) (added pointers : List ℕ) (first : ℕ)
    (pb_maps fb_maps : List (ℕ × Bitmap)) (ptrs : List (ℕ × PtrBlock)) : Type 0 where
  pub body : IsResized p o b b' size
  pub grows : length added ≡ size - b.count
  pub blocks_free : CanMark (bits_in p.fb_maps) added
  pub pointers_free : CanMark (bits_in p.pb_maps) pointers
  pub direct : size ≤ 96 → take size b'.addresses ≡ blocks_after p b size added
  pub lists : ptrs_in b' ≡ take (pointer_blocks size) (ptrs_in b) ++ pointers
  pub pages : WritesPages b b' (blocks_after p b size added) first ptrs
  pub pointer_marks : MarksClusters g p Pb (drop (pointer_blocks size) (ptrs_in b)) pointers pb_maps
  pub block_marks : MarksClusters g p Fb (drop size (blocks_in p b)) added fb_maps

-- the parts that are written: the bitmaps, the body, and the pointer blocks
abbrev pub resize_parts : ℕ → Body → List (ℕ × Bitmap) → List (ℕ × Bitmap) → List (ℕ × PtrBlock) → List Written
resize_parts o b' pb_maps fb_maps ptrs =
    map (λ (m : ℕ × Bitmap). MapPart Pb m.0 m.1) pb_maps
    ++ (map (λ (m : ℕ × Bitmap). MapPart Fb m.0 m.1) fb_maps ++ (BodyPart o b' ∷ map (λ (x : ℕ × PtrBlock). PtrPart x.0 x.1) ptrs))

-- What a planner of Resize has found out of a file that grows, and of one that shrinks.
use Rattle.std.specs.Prelude.{◌≡◌, ℕ, ◌-◌, ◌^◌, ◌<◌, ◌≤◌, List, [], ◌++◌, length, take, drop, Some}
use Rattle.ds_base.specs.declared.geometry.Geom.{Geom}
use Rattle.ds_base.specs.declared.geometry.Kind.TheVariants.{Pb, Fb}
use Rattle.ds_base.specs.declared.names.NodeKind.TheVariants as kinds
use Rattle.ds_bitmap.specs.Bits.{Bitmap}
use Rattle.ds_bytes.specs.Fields.{zeros, AllBelow}
use Rattle.ds_fd.specs.Body.{addresses_used}
use Rattle.ds_fd.specs.declared.body.Body.{Body}
use Rattle.ds_image_parts.specs.Parts.{Parts, part_at}
use Rattle.ds_ptr.specs.declared.ptr_block.PtrBlock.{PtrBlock}
use Rattle.ds_tree.specs.Counts.{pointer_blocks}
use Rattle.ds_plan_laws_size.specs.Pages.{ptrs_in, blocks_in}
use Rattle.ds_plan_laws_size.specs.Pointers.{WritesPages}
use Rattle.ds_plan_laws_size.specs.Resizing.{blocks_after}
use Rattle.ds_plan_laws_size.specs.Takes.{Take, items_taken, Takes, Gives}

-- the body of the same file with this size: as many addresses as the size needs, and zeros behind them
pub record HasSize (b b' : Body) (size : ℕ) (used : List ℕ) : Type 0 where
  pub object : b'.object ≡ b.object
  pub kind : b'.kind ≡ b.kind
  pub links : b'.links ≡ b.links
  pub birth : b'.birth ≡ b.birth
  pub count : b'.count ≡ size
  pub most : size ≤ 12288
  pub addresses : b'.addresses ≡ used ++ zeros (96 - length used)
  pub many : length used ≡ addresses_used (Some kinds.File) size
  pub below : AllBelow (2 ^ 32) b'.addresses

-- descriptor o is a file of at most so many blocks, and gets as many blocks and pointer blocks as it lacks
pub record GrowsFile (g : Geom) (p : Parts) (o : ℕ) (b b' : Body) (size : ℕ) (blocks pointers : List Take) (first : ℕ) (ptrs : List (ℕ × PtrBlock)) : Type 0 where
  pub there : part_at p.bodies o ≡ Some b
  pub file : b.kind ≡ Some kinds.File
  pub more : b.count ≤ size
  pub block_takes : Takes p Fb blocks
  pub block_count : length (items_taken g Fb blocks) ≡ size - b.count
  pub pointer_takes : Takes p Pb pointers
  pub pointer_count : length (items_taken g Pb pointers) ≡ pointer_blocks size - pointer_blocks b.count
  pub used : List ℕ
  pub has : HasSize b b' size used
  pub few : size ≤ 96 → used ≡ blocks_in p b ++ items_taken g Fb blocks
  pub many : 96 < size → used ≡ ptrs_in b ++ items_taken g Pb pointers
  pub pages : WritesPages b b' (blocks_after p b size (items_taken g Fb blocks)) first ptrs

-- descriptor o is a file of at least so many blocks, and gives up those past them and the pointer blocks that it needs no more
pub record ShrinksFile (g : Geom) (p : Parts) (o : ℕ) (b b' : Body) (size first : ℕ) (pb_maps fb_maps : List (ℕ × Bitmap)) (ptrs : List (ℕ × PtrBlock)) : Type 0 where
  pub there : part_at p.bodies o ≡ Some b
  pub file : b.kind ≡ Some kinds.File
  pub less : size ≤ b.count
  pub block_gives : Gives g p Fb (drop size (blocks_in p b)) fb_maps
  pub pointer_gives : Gives g p Pb (drop (pointer_blocks size) (ptrs_in b)) pb_maps
  pub used : List ℕ
  pub has : HasSize b b' size used
  pub few : size ≤ 96 → used ≡ take size (blocks_in p b)
  pub many : 96 < size → used ≡ take (pointer_blocks size) (ptrs_in b)
  pub pages : WritesPages b b' (blocks_after p b size []) first ptrs

-- Which pointer blocks of a file are written as its size changes.
use Rattle.std.specs.Prelude.{◌≡◌, ℕ, ◌*◌, ◌≤◌, List, slice_get, Some}
use Rattle.ds_fd.specs.declared.body.Body.{Body}
use Rattle.ds_ptr.specs.PtrBlock.{IsPtrBlock}
use Rattle.ds_ptr.specs.declared.ptr_block.PtrBlock.{PtrBlock}
use Rattle.ds_plan_laws_size.specs.Pages.{ptrs_in, IsPage}
use Rattle.ds_plan_laws_size.specs.Written.{AreOnce}

-- pointer block n of the body is written, at a place from the first changed one on, with its page of these blocks
pub record WritesPage (b' : Body) (blocks : List ℕ) (first : ℕ) (n : ℕ) (block : PtrBlock) : Type 0 where
  pub place : ℕ
  pub late : first ≤ place
  pub listed : slice_get (ptrs_in b') place ≡ Some n
  pub is_block : IsPtrBlock block
  pub page : IsPage blocks place block.addresses

-- all pointer blocks from that place on are written, by their numbers; the pages before it are full in the old file and in the new
pub record WritesPages (b b' : Body) (blocks : List ℕ) (first : ℕ) (ptrs : List (ℕ × PtrBlock)) : Type 0 where
  pub full_before : 128 * first ≤ b.count
  pub full_after : 128 * first ≤ b'.count
  pub once : AreOnce ptrs
  pub each : (i : ℕ) (ptr : ℕ × PtrBlock) → slice_get ptrs i ≡ Some ptr → WritesPage b' blocks first ptr.0 ptr.1
  pub all : (k n : ℕ) → first ≤ k → slice_get (ptrs_in b') k ≡ Some n
      → (i : ℕ) × ((ptr : ℕ × PtrBlock) × (slice_get ptrs i ≡ Some ptr) × (ptr.0 ≡ n))

-- What the body and the pointer blocks of a file hold.
use Rattle.std.specs.Prelude.{◌≡◌, ℕ, ◌+◌, ◌*◌, ◌<◌, ◌≤◌, List, length, take, slice_get, slice_index, Some}
use Rattle.ds_base.specs.declared.names.NodeKind.TheVariants as kinds
use Rattle.ds_fd.specs.declared.body.Body.{Body}
use Rattle.ds_image_parts.specs.Objects.{addresses_in, ptrs_by, blocks_by}
use Rattle.ds_image_parts.specs.Parts.{Parts, part_at}

-- the pointer blocks and the blocks of a file with this body
abbrev pub ptrs_in : Body → List ℕ
ptrs_in b = ptrs_by b (Some kinds.File)

abbrev pub blocks_in : Parts → Body → List ℕ
blocks_in p b = blocks_by p b (Some kinds.File)

-- page number k of a list: 128 numbers from the list, and zero past its last
pub record IsPage (list : List ℕ) (k : ℕ) (page : List ℕ) : Type 0 where
  pub count : length page ≡ 128
  pub each : (i : ℕ) → i < 128 → slice_index page i ≡ slice_index list (128 * k + i)

-- the body has these blocks as its first addresses, or above 96 of them its pointer blocks have their pages
pub record SpellsBlocks (p : Parts) (b : Body) (blocks : List ℕ) : Type 0 where
  pub count : b.count ≡ length blocks
  pub direct : length blocks ≤ 96 → take b.count b.addresses ≡ blocks
  pub paged : 96 < length blocks → (k n : ℕ) → slice_get (ptrs_in b) k ≡ Some n → IsPage blocks k (addresses_in (part_at p.ptrs n))

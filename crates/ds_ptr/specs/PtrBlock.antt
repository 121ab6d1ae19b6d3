-- Which pointer blocks there are, and the sectors that spell them.
use Rattle.std.specs.Prelude.{◌≡◌, ℕ, ◌^◌, List, [], ◌∷◌, length}
use Rattle.ds_bytes.specs.Fields.{AllBelow, Field, Nums, sector_of_fields}
use Rattle.ds_ptr.specs.declared.ptr_block.PtrBlock.{PtrBlock}

-- 128 addresses of four bytes
pub record IsPtrBlock (p : PtrBlock) : Type 0 where
  pub count : length p.addresses ≡ 128
  pub below : AllBelow (2 ^ 32) p.addresses

abbrev pub ptr_fields : PtrBlock → List Field
ptr_fields p = Nums 4 128 p.addresses ∷ []

-- the sector of a pointer block
unfoldable pub ptr_bytes : PtrBlock → List ℕ
ptr_bytes p = sector_of_fields (ptr_fields p)

-- The parts of an image: what its metadata spell, by number, with nothing where a sector spells nothing.
use Rattle.std.specs.Prelude.{ℕ, Bool, List, [], slice_index_or, Option, Some, None, IsSome, EachIndex}
use Rattle.std.specs.List.{flat_map}
use Rattle.ds_base.specs.declared.geometry.Kind.{Kind}
use Rattle.ds_base.specs.declared.geometry.Kind.TheVariants.{Fd, Sb, Pb, Fb}
use Rattle.ds_bitmap.specs.Bits.{Bitmap}
use Rattle.ds_dir.specs.declared.sub_block.SubBlock.{SubBlock}
use Rattle.ds_fd.specs.declared.body.Body.{Body}
use Rattle.ds_ptr.specs.declared.ptr_block.PtrBlock.{PtrBlock}

-- the bodies of all descriptors, the bitmaps of each kind's clusters, and all sub-blocks and pointer blocks
pub record Parts : Type 0 where
  pub bodies : List (Option Body)
  pub fd_maps : List (Option Bitmap)
  pub sb_maps : List (Option Bitmap)
  pub pb_maps : List (Option Bitmap)
  pub fb_maps : List (Option Bitmap)
  pub subs : List (Option SubBlock)
  pub ptrs : List (Option PtrBlock)

-- the part with a number, where its sector spells one
abbrev pub part_at : {V : Type 0} → List (Option V) → ℕ → Option V
part_at parts i = slice_index_or parts i None

-- each of these sectors spells a part
abbrev pub AllSpelled : {V : Type 0} → List (Option V) → Type 0
AllSpelled parts = EachIndex parts (λ i. IsSome (part_at parts i))

-- the bitmaps of a kind's clusters
abbrev pub maps_of : Parts → Kind → List (Option Bitmap)
maps_of p Fd = p.fd_maps
maps_of p Sb = p.sb_maps
maps_of p Pb = p.pb_maps
maps_of p Fb = p.fb_maps

-- the bits of a bitmap; one that is not spelled has none
abbrev pub used_bits : Option Bitmap → List Bool
used_bits None = []
used_bits (Some b) = b.used

-- the bits of a list of bitmaps, one after another: each item's, by its number in its kind
abbrev pub bits_in : List (Option Bitmap) → List Bool
bits_in maps = flat_map used_bits maps

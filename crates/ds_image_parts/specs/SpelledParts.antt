-- The sub-blocks and pointer blocks that the sectors of an image spell, each of which is determined by its sector.
use Rattle.std.specs.Prelude.{◌≡◌, List, map, slice_get, Option, None, Some, refl}
use Rattle.std.specs.List.{range_with_len}
use Rattle.ds_base.specs.Geometry.{items_of}
use Rattle.ds_base.specs.declared.geometry.Geom.{Geom}
use Rattle.ds_base.specs.declared.geometry.Kind.TheVariants.{Sb, Pb}
use Rattle.ds_base.specs.declared.sectors.Sector.{Sector}
use Rattle.ds_dir.proofs.Readings.{sub_reading}
use Rattle.ds_dir.specs.declared.sub_block.SubBlock.{SubBlock}
use Rattle.ds_layout.specs.Places.{place_sector}
use Rattle.ds_layout.specs.declared.places.Place.TheVariants as places
use Rattle.ds_ptr.proofs.Laws.{ptr_decoded}
use Rattle.ds_ptr.specs.declared.ptr_block.PtrBlock.{PtrBlock}
use Rattle.ds_image_parts.specs.ImageValues.{IsImage}
use Rattle.ds_image_parts.specs.Looks.{IsBlock}

-- what a sector of 512 bytes spells
abbrev pub sub_in : (o : Option Sector) → ((s : Sector) → o ≡ Some s → IsBlock s.bytes) → Option SubBlock
sub_in None blocks = None
sub_in (Some s) blocks = (sub_reading s.bytes (blocks s refl).size (blocks s refl).below).0

abbrev pub ptr_in : (o : Option Sector) → ((s : Sector) → o ≡ Some s → IsBlock s.bytes) → Option PtrBlock
ptr_in None blocks = None
ptr_in (Some s) blocks = (ptr_decoded s.bytes (blocks s refl).size (blocks s refl).below).0

-- what each of their sectors spells, by number
unfoldable pub spelled_subs : (g : Geom) (sectors : List Sector) → IsImage g sectors → List (Option SubBlock)
spelled_subs g sectors is =
    map (λ n. sub_in (slice_get sectors (place_sector g (places.SubBlock n))) (is.blocks (place_sector g (places.SubBlock n)))) (range_with_len 0 (items_of g Sb))

unfoldable pub spelled_ptrs : (g : Geom) (sectors : List Sector) → IsImage g sectors → List (Option PtrBlock)
spelled_ptrs g sectors is =
    map (λ n. ptr_in (slice_get sectors (place_sector g (places.PtrBlock n))) (is.blocks (place_sector g (places.PtrBlock n)))) (range_with_len 0 (items_of g Pb))

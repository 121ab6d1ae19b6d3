-- Each pointer block of an image is spelled, since all sectors spell one.
use Rattle.std.proofs.Common.{◌≡◌, ℕ, ◌<◌, refl, List, length, [], slice_index_or, slice_get, Some, arith}
use Rattle.std.proofs.lemmas.Option.{slice_get-get_or}
use Rattle.ds_base.specs.Geometry.{items_of}
use Rattle.ds_base.specs.declared.geometry.Geom.{Geom}
use Rattle.ds_base.specs.declared.geometry.Kind.TheVariants.{Pb}
use Rattle.ds_base.specs.declared.sectors.Sector.{Sector}
use Rattle.ds_layout.specs.Places.{place_sector}
use Rattle.ds_layout.specs.declared.places.Place.TheVariants as places
use Rattle.ds_ptr.proofs.Laws.{ptr_reading}
use Rattle.ds_ptr.specs.declared.ptr_block.PtrBlock.{PtrBlock}
use Rattle.ds_image_parts.specs.ImageValues.{IsImage}
use Rattle.ds_image_parts.specs.Parts.{Parts, part_at}
use Rattle.ds_image_parts.specs.Readings.{ReadsParts}
use Rattle.ds_layout.proofs.MetadataPlaces.{metadata_within}

module _ (g : Geom) (image : List Sector) (p : Parts) (is : IsImage g image) (reads : ReadsParts g (slice_get image) p) where
  pub pointer-there : (n : ℕ) → n < items_of g Pb → (b : PtrBlock) × (part_at p.ptrs n ≡ Some b) × (length b.addresses ≡ 128)
  pointer-there n within =
      let at = place_sector g (places.PtrBlock n) in
      let inside : at < length image = omega (arith, metadata_within g (places.PtrBlock n) within refl, is.size) in
      let zero : Sector = record { bytes = [] } in
      let s : Sector = slice_index_or image at zero in
      let there : slice_get image at ≡ Some s = slice_get-get_or image at zero inside in
      let block = is.blocks at s there in
      let read = ptr_reading s.bytes block.size block.below in
      (read.0, (reads.ptrs.each n within read.0).1 (read.1, (s, there, read.2)), read.1.count)

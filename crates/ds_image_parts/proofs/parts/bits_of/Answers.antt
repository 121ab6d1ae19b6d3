use Rattle.std.proofs.Common.{◌≡◌, slice_get, subst}
use Rattle.ds_base.specs.Decoding.{IsDecoded}
use Rattle.ds_base.specs.declared.geometry.Geom.{Geom}
use Rattle.ds_bitmap.specs.Bits.{IsBits, bits_bytes}
use Rattle.ds_layout.specs.Places.{place_sector}
use Rattle.ds_layout.specs.declared.places.Place.TheVariants as places
use Rattle.ds_image_parts.proofs.Spelling.Decoded.{spelled_at}
use Rattle.ds_image_parts.proofs.parts.bits_of.Goals as goal

pub returns : goal.returns
returns _ c =
    let g = c.args.image.now.geom in
    spelled_at (slice_get c.args.image.now.sectors) (place_sector g (places.Bitmap c.args.kind c.args.cluster)) c.sector_at-sector.result
    (IsBits g c.args.kind c.args.cluster) bits_bytes c.decode.result c.sector_at-sector.ensures
    (subst (λ (h : Geom). IsDecoded c.decode.result (λ b. IsBits h c.args.kind c.args.cluster b × (c.sector_at-sector.result.bytes ≡ bits_bytes b))) c.geom.ensures.value c.decode.ensures)

use Rattle.std.proofs.Common.{slice_get}
use Rattle.ds_layout.specs.Places.{place_sector}
use Rattle.ds_layout.specs.declared.places.Place.TheVariants as places
use Rattle.ds_image_parts.proofs.Spelling.PartsRead.{ptr_read}
use Rattle.ds_image_parts.proofs.parts.ptr_of.Goals as goal

pub returns : goal.returns
returns _ c =
    ptr_read (slice_get c.args.image.now.sectors) (place_sector c.args.image.now.geom (places.PtrBlock c.args.number)) c.sector_at-sector.result c.decode.result
    c.sector_at-sector.ensures c.decode.ensures.spelled c.decode.ensures.fits

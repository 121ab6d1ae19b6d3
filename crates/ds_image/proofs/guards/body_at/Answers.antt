-- The sector of a body is one of the image.
use Rattle.std.proofs.Common.{refl, sym}
use Rattle.ds_layout.specs.declared.places.Place.TheVariants.{Body}
use Rattle.ds_image.proofs.guards.body_at.Goals as goal

pub returns-in_err-sector : goal.returns-in_err-sector
returns-in_err-sector _ c =
    absurd (c.in_err-sector.ensures record { place = Body c.args.object; is_place = c.requires; here = sym (rw c.geom.ensures.value at c.sector_of.ensures); kept = refl })

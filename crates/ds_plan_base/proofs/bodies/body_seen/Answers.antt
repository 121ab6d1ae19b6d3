-- A sector that spells no body is odd.
use Rattle.std.proofs.Common.{Some, sym, ap, ◌∙◌}
use Rattle.ds_image_parts.specs.Parts.{part_at}
use Rattle.ds_image.specs.SeenValues.{look_of}
use Rattle.ds_layout.specs.Places.{place_sector}
use Rattle.ds_layout.specs.declared.places.Place.TheVariants as places
use Rattle.ds_plan_base.specs.Bodies.{part_seen}
use Rattle.ds_plan_base.proofs.Alike.{body_decoded, part_seen-as}
use Rattle.ds_plan_base.proofs.bodies.body_seen.Goals as goal

pub returns-in-None-clause-answer : goal.returns-in-None-clause-answer
returns-in-None-clause-answer c p reads =
    let at = c.sector_of-at.result in
    let look = look_of c.args.seen.now in
    let s = c.in-Some.sector.now in
    ap (part_seen at (Some s)) (sym c.in-None.is)
    ∙ part_seen-as look at (place_sector c.args.geom.now (places.Body c.args.object)) s c.decode.result (part_at p.bodies c.args.object) c.sector_of-at.ensures c.in-Some.ensures.exact
    (body_decoded c.args.geom.now look p c.args.object at s c.decode.result c.requires.inside c.sector_of-at.ensures c.in-Some.ensures.exact c.decode.ensures reads)

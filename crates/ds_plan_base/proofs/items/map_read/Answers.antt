-- What was decoded is the bitmap of the parts.
use Rattle.std.proofs.Common.{Some, sym, ap, ◌∙◌}
use Rattle.ds_image_parts.specs.Parts.{part_at, maps_of}
use Rattle.ds_image.specs.SeenValues.{look_of}
use Rattle.ds_layout.specs.Places.{place_sector}
use Rattle.ds_layout.specs.declared.places.Place.TheVariants as places
use Rattle.ds_plan_base.proofs.Bitmaps.{map_decoded}
use Rattle.ds_plan_base.specs.Bodies.{part_seen}
use Rattle.ds_plan_base.proofs.Alike.{part_seen-as}
use Rattle.ds_plan_base.proofs.items.map_read.Goals as goal

pub returns-in-Some-decode-clause-answer : goal.returns-in-Some-decode-clause-answer
returns-in-Some-decode-clause-answer c p reads =
    let at = c.sector_of-at.result in
    let look = look_of c.args.seen.now in
    let s = c.in-Some.sector.now in
    ap (part_seen at (Some s)) (sym c.in-Some-decode.is)
    ∙ part_seen-as look at (place_sector c.args.geom.now (places.Bitmap c.args.kind c.args.cluster)) s c.decode.result (part_at (maps_of p c.args.kind) c.args.cluster)
    c.sector_of-at.ensures c.in-Some.ensures.exact
    (map_decoded c.args.geom.now look p c.args.kind c.args.cluster at s c.decode.result c.requires.inside c.sector_of-at.ensures c.in-Some.ensures.exact c.decode.ensures reads)

pub returns-in-Some-decode-clause-is_bits : goal.returns-in-Some-decode-clause-is_bits
returns-in-Some-decode-clause-is_bits c = ((c.decode.ensures c.in-Some-decode.map).0 c.in-Some-decode.is).0

pub returns-in-None-clause-answer : goal.returns-in-None-clause-answer
returns-in-None-clause-answer c p reads =
    let at = c.sector_of-at.result in
    let look = look_of c.args.seen.now in
    let s = c.in-Some.sector.now in
    ap (part_seen at (Some s)) (sym c.in-None.is)
    ∙ part_seen-as look at (place_sector c.args.geom.now (places.Bitmap c.args.kind c.args.cluster)) s c.decode.result (part_at (maps_of p c.args.kind) c.args.cluster)
    c.sector_of-at.ensures c.in-Some.ensures.exact
    (map_decoded c.args.geom.now look p c.args.kind c.args.cluster at s c.decode.result c.requires.inside c.sector_of-at.ensures c.in-Some.ensures.exact c.decode.ensures reads)

-- What was decoded and what is still spelled are the parts of the image.
use Rattle.ds_image_parts.proofs.Spelling.PartsRead.{parts_read}
use Rattle.ds_image_parts.proofs.parts.PartsInMemory.read.Goals as goal

pub returns : goal.returns
returns g c =
    let image = c.args.image.now in
    parts_read image.geom image.sectors c.in_ok-bodies.bodies.items c.in_ok-fd_maps.fd_maps.items c.in_ok-sb_maps.sb_maps.items c.in_ok-pb_maps.pb_maps.items
    c.in_ok-fb_maps.fb_maps.items c.result-1.given.0 c.in_ok-bodies.ensures c.in_ok-fd_maps.ensures c.in_ok-sb_maps.ensures c.in_ok-pb_maps.ensures c.in_ok-fb_maps.ensures

-- A header is bad where none is decoded.
use Rattle.std.proofs.Common.{slice_get}
use Rattle.ds_image_parts.specs.Readings.{SpellsHeader}
use Rattle.ds_image_parts.proofs.Spelling.BadSectors.{no_value}
use Rattle.ds_image_parts.proofs.bad_sectors.is_bad_place.Goals as goal

pub returns-in-Header : goal.returns-in-Header
returns-in-Header g c =
    rw c.in-Header.is
    (no_value c.header_at.result c.is_none-in-Header.result (SpellsHeader c.args.geom.now (slice_get (g.S.Store.sectors c.args.store.now)) c.in-Header.object)
    c.is_none-in-Header.ensures c.header_at.ensures)

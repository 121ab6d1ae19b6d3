-- The header that was decoded is what the sector of its lock object spells.
use Rattle.std.proofs.Common.{◌≡◌, slice_get}
use Rattle.ds_layout.specs.Places.{header_sector}
use Rattle.ds_marks.specs.Header.{IsHeader, header_bytes}
use Rattle.ds_image_parts.proofs.Spelling.Decoded.{numbered_at}
use Rattle.ds_image_parts.proofs.reads.header_at.Goals as goal

pub returns : goal.returns
returns g c =
    numbered_at (slice_get (g.S.Store.sectors c.args.store.now)) (header_sector c.args.geom.now c.args.object) c.sector_at-sector.result
    (λ h. h.object ≡ c.args.object) IsHeader header_bytes c.decode.result c.sector_at-sector.ensures c.decode.ensures.spelled

-- The owner is that in the header that was decoded.
use Rattle.std.proofs.Common.{slice_get}
use Rattle.ds_check.proofs.Pending.{owner_unread, owner_read}
use Rattle.ds_check.proofs.controls.owner_at.Goals as goal

pub returns-in-None : goal.returns-in-None
returns-in-None c =
    owner_unread c.args.geom.now (slice_get c.args.sectors.now) c.args.object c.header_at.result c.header_at.ensures c.in-None.is

pub returns-in-Some : goal.returns-in-Some
returns-in-Some c =
    owner_read c.args.geom.now (slice_get c.args.sectors.now) c.args.object c.header_at.result c.in-Some.header c.header_at.ensures c.in-Some.is

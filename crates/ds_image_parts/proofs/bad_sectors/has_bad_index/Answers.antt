-- The index is bad where none is found.
use Rattle.ds_image_parts.proofs.Spelling.BadSectors.{bad_index}
use Rattle.ds_image_parts.proofs.bad_sectors.has_bad_index.Goals as goal

pub returns-in-Committed : goal.returns-in-Committed
returns-in-Committed g c =
    bad_index c.args.geom.now (g.S.Store.sectors c.args.store.now) c.args.number c.slot_at.result c.in-Some.slot c.in-Committed.txn c.in-Committed.count c.index_of.result
    c.is_none.result c.slot_at.ensures c.in-Some.is c.in-Committed.is c.index_of.ensures c.is_none.ensures

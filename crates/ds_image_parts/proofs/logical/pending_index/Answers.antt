-- The index that is found is that of the committed journal.
use Rattle.ds_image_parts.proofs.Journaling.Laying.{committed_found}
use Rattle.ds_image_parts.proofs.logical.pending_index.Goals as goal

pub returns-in-Committed : goal.returns-in-Committed
returns-in-Committed g c =
    committed_found c.args.geom.now (g.S.Store.sectors c.args.store.now) c.args.number c.slot_at.result c.in_ok-slot.slot c.in-Committed.txn c.in-Committed.count c.index_of.result
    c.requires.inside c.requires.good c.slot_at.ensures c.in_ok-slot.was c.in-Committed.is c.index_of.ensures

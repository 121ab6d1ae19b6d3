-- One more sector is read.
use Rattle.ds_image_parts.proofs.Journaling.Laying.{blocks_more}
use Rattle.ds_image_parts.proofs.logical.read_front.Goals as goal

pub loop-at-preserved : goal.loop-at-preserved
loop-at-preserved g c =
    blocks_more (g.S.Store.sectors c.args.store.now) c.loop-at.at c.block_at-sector.result c.loop-at.invariant c.block_at-sector.ensures.here c.block_at-sector.ensures.block

-- One more pair is laid.
use Rattle.std.proofs.Common.{Some, get_or, rules}
use Rattle.std.specs.BTreeMap.{get, Updates}
use Rattle.std.specs.Ordering.{nat_cmp}
use Rattle.ds_image_parts.specs.Replaced.{image_of}
use Rattle.ds_image_parts.proofs.Journaling.Laying.{lays_put}
use Rattle.ds_image_parts.proofs.logical.lay_journal.Goals as goal

pub loop-i-preserved : goal.loop-i-preserved
loop-i-preserved g c =
    let geom = c.args.geom.now in
    let sectors = g.S.Store.sectors c.args.store.now in
    let i = c.loop-i.i in
    let s = c.block_at-sector.result in
    let updates : Updates nat_cmp c.loop-i.pending c.insert.new.self (get_or c.args.targets.now i 0) (Some s) = search rules in
    lays_put geom sectors c.args.slot c.args.targets.now i (image_of geom sectors (get nat_cmp c.args.pending.now)) (get nat_cmp c.loop-i.pending)
    (get nat_cmp c.insert.new.self) s c.loop-i-test.true (rw (← c.sector_of.ensures) c.block_at-sector.ensures.here) c.block_at-sector.ensures.block
    updates.0 c.loop-i.invariant

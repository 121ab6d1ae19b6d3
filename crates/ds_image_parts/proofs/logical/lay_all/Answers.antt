-- The pairs of one more slot are laid.
use Rattle.std.specs.BTreeMap.{get}
use Rattle.std.specs.Ordering.{nat_cmp}
use Rattle.ds_image_parts.specs.Replaced.{image_of}
use Rattle.ds_image_parts.proofs.Journaling.Laying.{lays_slot}
use Rattle.ds_image_parts.proofs.logical.lay_all.Goals as goal

pub loop-number-preserved : goal.loop-number-preserved
loop-number-preserved g c =
    let geom = c.args.geom.now in
    let sectors = g.S.Store.sectors c.args.store.now in
    lays_slot geom sectors c.loop-number.number (image_of geom sectors (get nat_cmp c.args.pending.now)) (image_of geom sectors (get nat_cmp c.loop-number.pending))
    (image_of geom sectors (get nat_cmp c.lay_slot.new.pending)) c.loop-number.invariant c.in_ok-lay_slot.ensures

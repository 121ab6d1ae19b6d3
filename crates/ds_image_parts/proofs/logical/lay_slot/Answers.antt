-- The pairs of the slot's journal are its pending ones.
use Rattle.std.specs.BTreeMap.{get}
use Rattle.std.specs.Ordering.{nat_cmp}
use Rattle.std.proofs.lemmas.Result.{on_ok_weaker}
use Rattle.ds_image_parts.specs.Pending.{AreJournalled, ArePending}
use Rattle.ds_image_parts.specs.Replaced.{image_of}
use Rattle.ds_image_parts.proofs.Journaling.Laying.{lays_as, committed_pending}
use Rattle.ds_image_parts.proofs.logical.lay_slot.Goals as goal

pub returns-in-Some : goal.returns-in-Some
returns-in-Some g c =
    let geom = c.args.geom.now in
    let sectors = g.S.Store.sectors c.args.store.now in
    let number = c.args.number in
    let index = c.in-Some.index in
    on_ok_weaker c.lay_journal.result
    (lays_as (AreJournalled geom sectors number c.as_slice.result.now) (ArePending geom sectors number) (image_of geom sectors (get nat_cmp c.args.pending.now))
    (image_of geom sectors (get nat_cmp c.lay_journal.new.pending))
    (λ pairs are. committed_pending geom sectors number index pairs c.in-Some.ensures (rw (← c.as_slice.ensures.value) are)))
    c.lay_journal.ensures

use Rattle.std.proofs.Common.{refl, arith}
use Rattle.ds_lock.specs.Locking.{Behind, Over, Own}
use Rattle.ds_lock.proofs.Going.{bad-slot}
use Rattle.ds_lock.proofs.Shown.{newest-read, read-shown}
use Rattle.ds_lock.proofs.steps.Wanted.owner_shown.Goals as goal

pub returns-then-image-owner-clause-goes : goal.returns-then-image-owner-clause-goes
returns-then-image-owner-clause-goes c = λ notes now pass owned earlier read stale.
    c.loose.ensures.goes notes now pass owned.shown (Over c.args.owner.now c.args.image.now owned.owned
    (read-shown c.args.self.now pass c.args.owner.now.slot c.args.image.now
    (newest-read c.args.self.now now pass c.args.owner.now.slot c.args.image.now read)) c.if-image-owner.true)

pub returns-then-owner-self-clause-goes : goal.returns-then-owner-self-clause-goes
returns-then-owner-self-clause-goes c = λ notes now pass owned earlier read stale.
    bad-slot c.args.self.now notes now pass c.damaged.result c.args.header.now c.args.owner.now c.args.image.now c.damaged.ensures
    (Own c.if-owner-self.true (earlier c.if-owner-self.true) (omega (arith, c.if-image-owner.false))) owned read

pub returns-then-image-owner-2-clause-goes : goal.returns-then-image-owner-2-clause-goes
returns-then-image-owner-2-clause-goes c = λ notes now pass owned earlier read stale.
    bad-slot c.args.self.now notes now pass c.damaged-then-image-owner-2.result c.args.header.now c.args.owner.now c.args.image.now
    c.damaged-then-image-owner-2.ensures (Behind c.if-image-owner-2.true) owned read

pub returns-clause-goes : goal.returns-clause-goes
returns-clause-goes c = λ notes now pass owned earlier read stale.
    c.owning.ensures.goes notes now pass (record {
      owner = c.args.owner.now;
      names = owned;
      same_slot = refl;
      read = newest-read c.args.self.now now pass c.args.owner.now.slot c.args.image.now read;
      same_generation = omega (arith, c.if-image-owner.false, c.if-image-owner-2.false);
      other = c.if-owner-self.false;
    }) read (stale c.if-owner-self.false)

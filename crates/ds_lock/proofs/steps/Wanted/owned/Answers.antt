use Rattle.ds_lock.specs.Locking.{Later, Outside}
use Rattle.ds_lock.proofs.Going.{bad-owner}
use Rattle.ds_lock.proofs.steps.Wanted.owned.Goals as goal

pub returns-then-owner-self-3-clause-goes : goal.returns-then-owner-self-3-clause-goes
returns-then-owner-self-3-clause-goes c = λ notes now pass shown.
    bad-owner c.args.self.now notes now pass c.damaged.result c.args.header.now c.args.owner.now c.damaged.ensures c.requires.owner
    (Later c.if-owner-self.true c.if-owner-self-3.true) shown

pub returns-then-owner-self-4-clause-goes : goal.returns-then-owner-self-4-clause-goes
returns-then-owner-self-4-clause-goes c = λ notes now pass shown.
    bad-owner c.args.self.now notes now pass c.damaged-then-owner-self-4.result c.args.header.now c.args.owner.now
    c.damaged-then-owner-self-4.ensures
    c.requires.owner (Outside c.if-owner-self-4.true) shown

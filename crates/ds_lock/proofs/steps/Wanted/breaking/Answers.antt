use Rattle.ds_lock.specs.Locking.{Beyond, Itself}
use Rattle.ds_lock.proofs.Going.{bad-breaker}
use Rattle.ds_lock.proofs.steps.Wanted.breaking.Goals as goal

pub returns-then-by-slot-clause-goes : goal.returns-then-by-slot-clause-goes
returns-then-by-slot-clause-goes c = λ notes now pass owned.
    bad-breaker c.args.self.now notes now pass c.slot_damaged.result c.args.header.now c.args.slot c.args.by c.args.by_generation
    c.args.image.now
    c.slot_damaged.ensures c.requires.breaking (Itself c.if-by-slot.true) owned

pub returns-then-by-self-clause-goes : goal.returns-then-by-self-clause-goes
returns-then-by-self-clause-goes c = λ notes now pass owned.
    bad-breaker c.args.self.now notes now pass c.slot_damaged-then-by-self.result c.args.header.now c.args.slot c.args.by
    c.args.by_generation
    c.args.image.now c.slot_damaged-then-by-self.ensures c.requires.breaking (Beyond c.if-by-self.true) owned

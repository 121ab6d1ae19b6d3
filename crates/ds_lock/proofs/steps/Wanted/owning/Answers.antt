use Rattle.ds_lock.proofs.Going.{empty-slot}
use Rattle.ds_lock.proofs.steps.Wanted.owning.Goals as goal

pub returns-in-Free-clause-goes : goal.returns-in-Free-clause-goes
returns-in-Free-clause-goes c = λ notes now pass owned read stale.
    empty-slot c.args.self.now notes now pass c.damaged.result c.args.header.now c.args.slot c.args.image.now c.damaged.ensures
    c.in-Free.is owned read

pub returns-in-Breaking-clause-goes : goal.returns-in-Breaking-clause-goes
returns-in-Breaking-clause-goes c = λ notes now pass owned read stale. c.breaking.ensures.goes notes now pass owned

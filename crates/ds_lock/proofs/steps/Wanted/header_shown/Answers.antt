use Rattle.ds_lock.specs.Locking.{Unowned}
use Rattle.ds_lock.proofs.steps.Wanted.header_shown.Goals as goal

pub returns-in-None-clause-goes : goal.returns-in-None-clause-goes
returns-in-None-clause-goes c = λ notes now pass shown. c.loose.ensures.goes notes now pass shown (Unowned c.in-None.is)

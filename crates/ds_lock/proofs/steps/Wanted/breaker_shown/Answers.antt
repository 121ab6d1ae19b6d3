use Rattle.ds_lock.specs.Locking.{Seized}
use Rattle.ds_lock.proofs.Shown.{breaker-owned}
use Rattle.ds_lock.proofs.steps.Wanted.breaker_shown.Goals as goal

pub returns-then-breaker-by_generation-clause-goes : goal.returns-then-breaker-by_generation-clause-goes
returns-then-breaker-by_generation-clause-goes c = λ notes now pass by read.
    c.lost.ensures.goes notes now pass
    (breaker-owned c.args.self.now now pass c.args.header.now c.args.slot c.args.image.now by c.args.by_generation c.args.breaker.now read)
    (Seized by c.args.by_generation c.args.breaker.now read c.if-breaker-by_generation.true)

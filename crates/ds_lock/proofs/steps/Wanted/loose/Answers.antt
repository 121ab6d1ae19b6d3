use Rattle.ds_lock.specs.Locking.{Untaken}
use Rattle.ds_lock.proofs.steps.Wanted.loose.Goals as goal

pub returns-then-header-ge-MOST_GENERATION-clause-goes : goal.returns-then-header-ge-MOST_GENERATION-clause-goes
returns-then-header-ge-MOST_GENERATION-clause-goes c = λ notes now pass shown loose.
    Untaken c.args.header.now shown loose c.if-header-ge-MOST_GENERATION.true

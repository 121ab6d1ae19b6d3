use Rattle.std.proofs.Common.{inl, inr}
use Rattle.ds_lock.specs.Locking.{Unbroken}
use Rattle.ds_lock.proofs.steps.Wanted.lost.Goals as goal
use Rattle.ds_lock.proofs.steps.Wanted.lost.Goals.{then-header-ge-MOST_GENERATION-via-then-header-ge-MOST_GENERATION, then-header-ge-MOST_GENERATION-via-else-header-ge-MOST_GENERATION+then-image-ge-MOST_GENERATION}

pub returns-then-header-ge-MOST_GENERATION-clause-goes : goal.returns-then-header-ge-MOST_GENERATION-clause-goes
returns-then-header-ge-MOST_GENERATION-clause-goes c = λ notes now pass owned lost.
    Unbroken c.args.header.now c.args.slot c.args.image.now owned lost (elim c.then-header-ge-MOST_GENERATION.branch [
      | then-header-ge-MOST_GENERATION-via-then-header-ge-MOST_GENERATION w ↦ inl w.if-header-ge-MOST_GENERATION.true
      | then-header-ge-MOST_GENERATION-via-else-header-ge-MOST_GENERATION+then-image-ge-MOST_GENERATION w
          ↦ inr w.if-image-ge-MOST_GENERATION.true
    ])

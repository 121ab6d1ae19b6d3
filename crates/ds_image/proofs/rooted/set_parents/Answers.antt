-- One more object has the parent, where it is there.
use Rattle.std.proofs.Common.{◌+◌, List, Option, ℕ, take, get_or, refl, sym, subst}
use Rattle.ds_image.specs.ListParents.{SetsParents}
use Rattle.ds_image.proofs.Parenthood.ListParents.{sets-more, sets-past}
use Rattle.ds_image.proofs.rooted.set_parents.Goals as goal
use Rattle.ds_image.proofs.rooted.set_parents.Goals.{then-at-parents, else-at-parents}

pub loop-object-preserved : goal.loop-object-preserved
loop-object-preserved c =
    let n = c.loop-object.object-index in
    let x = get_or c.args.named.now n 0 in
    let Sets : List (Option ℕ) → Type 0 = SetsParents c.args.parents.now (take (n + 1) c.args.named.now) c.args.dir in
    elim c.if-at-parents.branch [
      | then-at-parents w ↦ subst Sets (sym w.parents-is)
          (sets-more c.args.parents.now c.args.named.now c.args.dir n x c.loop-object.parents c.loop-object-test.true refl c.loop-object.invariant)
      | else-at-parents w ↦ subst Sets (sym w.parents-is)
          (sets-past c.args.parents.now c.args.named.now c.args.dir n x c.loop-object.parents c.loop-object-test.true refl c.loop-object.invariant w.if-at-parents.false)
    ]

-- The objects so far have the parent.
use Rattle.std.proofs.Common.{take}
use Rattle.ds_image.specs.ListParents.{SetsParents}
use Rattle.ds_image.proofs.rooted.set_parents.Given as goal

abbrev pub invariant-loop-object : goal.invariant-loop-object
invariant-loop-object l = SetsParents l.fn.parents (take l.object-index l.named) l.dir l.parents

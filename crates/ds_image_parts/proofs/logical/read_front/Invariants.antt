-- The sectors so far have 512 bytes each.
use Rattle.std.proofs.Common.{slice_get, take}
use Rattle.ds_image_parts.specs.Looks.{AreBlocks}
use Rattle.ds_image_parts.proofs.logical.read_front.Given as goal

abbrev pub invariant-loop-at : goal.invariant-loop-at
invariant-loop-at g l = AreBlocks (slice_get (take l.at (g.S.Store.sectors l.store)))

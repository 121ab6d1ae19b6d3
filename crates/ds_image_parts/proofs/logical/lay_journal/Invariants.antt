-- The pairs so far are laid over what was pending.
use Rattle.std.proofs.Common.{take}
use Rattle.std.specs.BTreeMap.{get}
use Rattle.std.specs.Ordering.{nat_cmp}
use Rattle.ds_image_parts.specs.Laying.{Lays}
use Rattle.ds_image_parts.specs.Pending.{AreJournalled}
use Rattle.ds_image_parts.specs.Replaced.{image_of}
use Rattle.ds_image_parts.proofs.logical.lay_journal.Given as goal

abbrev pub invariant-loop-i : goal.invariant-loop-i
invariant-loop-i g l =
    Lays (AreJournalled l.geom (g.S.Store.sectors l.store) l.slot (take l.i l.targets)) (image_of l.geom (g.S.Store.sectors l.store) (get nat_cmp l.initial.pending))
    (image_of l.geom (g.S.Store.sectors l.store) (get nat_cmp l.pending))

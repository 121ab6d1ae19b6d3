-- The pairs of the slots so far are laid over what was pending.
use Rattle.std.specs.BTreeMap.{get}
use Rattle.std.specs.Ordering.{nat_cmp}
use Rattle.ds_image_parts.specs.Laying.{Lays, ArePendingBelow}
use Rattle.ds_image_parts.specs.Replaced.{image_of}
use Rattle.ds_image_parts.proofs.logical.lay_all.Given as goal

abbrev pub invariant-loop-number : goal.invariant-loop-number
invariant-loop-number g l =
    Lays (ArePendingBelow l.geom (g.S.Store.sectors l.store) l.number) (image_of l.geom (g.S.Store.sectors l.store) (get nat_cmp l.initial.pending))
    (image_of l.geom (g.S.Store.sectors l.store) (get nat_cmp l.pending))

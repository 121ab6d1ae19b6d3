-- No sector so far is bad.
use Rattle.std.proofs.Common.{ℕ, ◌<◌}
use Rattle.ds_image_parts.specs.BadSectors.{IsBad}
use Rattle.ds_image_parts.proofs.bad_sectors.least_bad.Given as goal

abbrev pub invariant-loop-at : goal.invariant-loop-at
invariant-loop-at g l = (i : ℕ) → i < l.at → ¬ IsBad l.geom (g.S.Store.sectors l.store) i

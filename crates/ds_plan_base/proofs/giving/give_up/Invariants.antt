-- The bitmaps of the clusters so far are written.
use Rattle.std.proofs.Common.{◌≡◌, ◌+◌, ◌≤◌, length}
use Rattle.ds_base.specs.Geometry.{clusters_of}
use Rattle.ds_image_parts.specs.Parts.{Parts}
use Rattle.ds_image_parts.specs.Readings.{ReadsParts}
use Rattle.ds_image.specs.SeenValues.{look_of}
use Rattle.ds_plan_base.specs.Giving.{given_up}
use Rattle.ds_plan_base.proofs.GivingSteps.{written_from}
use Rattle.ds_plan_base.proofs.giving.give_up.Given as goal

abbrev pub invariant-loop-cluster : goal.invariant-loop-cluster
invariant-loop-cluster l = record {
  most : clusters_of l.fn.geom l.fn.kind ≤ 8;
  few : length l.written.pairs.items ≤ length l.fn.redo.pairs.items + l.cluster;
  known : (p : Parts) → ReadsParts l.fn.geom (look_of l.fn.seen) p
      → given_up l.fn.geom l.fn.seen p l.fn.kind l.fn.items l.fn.listed l.fn.redo ≡ written_from l.fn.geom l.fn.seen p l.fn.kind l.fn.items l.written l.cluster;
}

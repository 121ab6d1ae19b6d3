-- No cluster so far has a free item.
use Rattle.std.proofs.Common.{◌≡◌, ◌-◌}
use Rattle.ds_base.specs.Geometry.{clusters_of}
use Rattle.ds_image_parts.specs.Parts.{Parts}
use Rattle.ds_image_parts.specs.Readings.{ReadsParts}
use Rattle.ds_image.specs.SeenValues.{look_of}
use Rattle.ds_plan_base.specs.Items.{free_item, item_from}
use Rattle.ds_plan_base.proofs.items.free_item.Given as goal

abbrev pub invariant-loop-tried : goal.invariant-loop-tried
invariant-loop-tried l =
    (p : Parts) → ReadsParts l.geom (look_of l.seen) p
    → free_item l.geom l.slot l.seen p l.kind ≡ item_from l.geom l.slot l.seen p l.kind l.tried (clusters_of l.geom l.kind - l.tried)

-- So many items are taken from the clusters that were tried.
use Rattle.std.proofs.Common.{◌≡◌, ◌-◌, ◌≤◌, length}
use Rattle.ds_base.specs.Geometry.{clusters_of}
use Rattle.ds_image_parts.specs.Parts.{Parts}
use Rattle.ds_image_parts.specs.Readings.{ReadsParts}
use Rattle.ds_image.specs.SeenValues.{look_of}
use Rattle.ds_plan_resize.specs.Blocks.{AreItems}
use Rattle.ds_plan_resize.specs.Taking.{items_wanted, items_from}
use Rattle.ds_plan_resize.proofs.taking.items_wanted.Given as goal

abbrev pub invariant-loop-tried : goal.invariant-loop-tried
invariant-loop-tried l = record {
  known : (p : Parts) → ReadsParts l.geom (look_of l.seen) p
      → items_wanted l.geom l.slot l.seen p l.kind l.count ≡ items_from l.geom l.slot l.seen p l.kind l.count l.taken l.tried (clusters_of l.geom l.kind - l.tried);
  few : length l.taken.numbers.items ≤ l.count;
  items : AreItems l.geom l.kind l.taken.numbers.items;
  maps : length l.taken.maps.items ≤ l.tried;
}

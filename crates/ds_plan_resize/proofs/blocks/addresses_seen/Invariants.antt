-- The pointer blocks so far are known.
use Rattle.std.proofs.Common.{◌≡◌, ℕ, ◌*◌, ◌<◌, [], length, drop}
use Rattle.std.specs.Prelude.{slice_index}
use Rattle.ds_base.specs.Geometry.{items_of}
use Rattle.ds_base.specs.declared.geometry.Kind.TheVariants.{Pb}
use Rattle.ds_image_parts.specs.Parts.{Parts}
use Rattle.ds_image_parts.specs.Readings.{ReadsParts}
use Rattle.ds_image.specs.SeenValues.{look_of}
use Rattle.ds_plan_resize.specs.Blocks.{addresses_seen}
use Rattle.ds_plan_resize.proofs.blocks.addresses_seen.Given as goal

abbrev pub invariant-loop-n : goal.invariant-loop-n
invariant-loop-n l = record {
  known : (p : Parts) → ReadsParts l.geom (look_of l.seen) p
      → addresses_seen l.geom l.seen p l.body [] l.pointers ≡ addresses_seen l.geom l.seen p l.body l.list.items (drop l.n-index l.pointers);
  count : length l.list.items ≡ 128 * l.n-index;
  inside : (i : ℕ) → i < l.n-index → slice_index l.pointers i < items_of l.geom Pb;
}

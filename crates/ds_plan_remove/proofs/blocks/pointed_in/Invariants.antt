-- The addresses in the pointer blocks so far are found.
use Rattle.std.proofs.Common.{◌≡◌, ◌*◌, drop, length, Some}
use Rattle.std.specs.Prelude.{Ok}
use Rattle.ds_image_parts.specs.Objects.{ptrs_of}
use Rattle.ds_image_parts.specs.Parts.{Parts}
use Rattle.ds_image_parts.specs.Readings.{ReadsParts}
use Rattle.ds_image.specs.SeenValues.{look_of}
use Rattle.ds_plan_base.specs.Steps.{after}
use Rattle.ds_plan_remove.specs.Blocks.{pointed_in, pointed_from}
use Rattle.ds_plan_remove.proofs.blocks.pointed_in.Given as goal

abbrev pub invariant-loop-number : goal.invariant-loop-number
invariant-loop-number l = record {
  many : length l.found.items ≡ 128 * l.number-index;
  known : (p : Parts) → ReadsParts l.geom (look_of l.seen) p
      → pointed_in l.geom l.seen p l.file
      ≡ after (pointed_from l.geom l.seen p l.file l.found.items (drop l.number-index (ptrs_of (Some l.file)))) (λ found. Ok (record { items = found }));
}

-- The sub-blocks so far were looked through for both names.
use Rattle.std.proofs.Common.{◌≡◌, ◌<◌, ◌&&◌, false, drop, Some, is_some}
use Rattle.std.specs.Prelude.{IfSome}
use Rattle.ds_base.specs.Geometry.{items_of}
use Rattle.ds_base.specs.declared.geometry.Kind.TheVariants.{Sb}
use Rattle.ds_image_parts.specs.Objects.{subs_of}
use Rattle.ds_image_parts.specs.Parts.{Parts}
use Rattle.ds_image_parts.specs.Readings.{ReadsParts}
use Rattle.ds_image.specs.SeenValues.{look_of}
use Rattle.ds_plan_base.specs.Objects.{IsFoundRoom}
use Rattle.ds_plan_base.specs.declared.entries.Found.{Found}
use Rattle.ds_plan_rename.specs.Entries.{entry_kept, entry_kept_from}
use Rattle.ds_plan_rename.proofs.entries.entry_kept.Given as goal

abbrev pub invariant-loop-number : goal.invariant-loop-number
invariant-loop-number l = record {
  known : (p : Parts) → ReadsParts l.geom (look_of l.seen) p
      → entry_kept l.geom l.seen p l.dir l.name l.fresh ≡ entry_kept_from l.geom l.seen p l.dir l.name l.fresh l.from l.taken (drop l.number-index (subs_of (Some l.dir)));
  apart : (l.taken && is_some l.from) ≡ false;
  is_room : IfSome l.from IsFoundRoom;
  within : IfSome l.from (λ (found : Found). found.sub < items_of l.geom Sb);
}

-- No sub-block so far has the name.
use Rattle.std.proofs.Common.{◌≡◌, drop, Some}
use Rattle.ds_image_parts.specs.Objects.{subs_of}
use Rattle.ds_image_parts.specs.Parts.{Parts}
use Rattle.ds_image_parts.specs.Readings.{ReadsParts}
use Rattle.ds_image.specs.SeenValues.{look_of}
use Rattle.ds_plan_base.specs.Entries.{found_in, found_from}
use Rattle.ds_plan_base.proofs.entries.find.Given as goal

abbrev pub invariant-loop-number : goal.invariant-loop-number
invariant-loop-number l =
    (p : Parts) → ReadsParts l.geom (look_of l.seen) p
    → found_in l.geom l.seen p l.dir l.name ≡ found_from l.geom l.seen p l.dir l.name (drop l.number-index (subs_of (Some l.dir)))

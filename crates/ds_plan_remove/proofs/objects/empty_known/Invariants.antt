-- No sub-block so far has an entry.
use Rattle.std.proofs.Common.{◌≡◌, drop, Some}
use Rattle.ds_image_parts.specs.Objects.{subs_of}
use Rattle.ds_image_parts.specs.Parts.{Parts}
use Rattle.ds_image_parts.specs.Readings.{ReadsParts}
use Rattle.ds_image.specs.SeenValues.{look_of}
use Rattle.ds_plan_remove.specs.Answers.{empty_from}
use Rattle.ds_plan_remove.proofs.objects.empty_known.Given as goal

abbrev pub invariant-loop-number : goal.invariant-loop-number
invariant-loop-number l =
    (p : Parts) → ReadsParts l.geom (look_of l.seen) p
    → empty_from l.geom l.seen p l.dir (subs_of (Some l.dir)) ≡ empty_from l.geom l.seen p l.dir (drop l.number-index (subs_of (Some l.dir)))

-- No room of the sub-blocks so far has the name, their used rooms are counted, and the first free one of them is known.
use Rattle.std.proofs.Common.{◌≡◌, ◌≤◌, ◌*◌, drop, Some}
use Rattle.ds_image_parts.specs.Objects.{subs_of}
use Rattle.ds_image_parts.specs.Parts.{Parts}
use Rattle.ds_image_parts.specs.Readings.{ReadsParts}
use Rattle.ds_image.specs.SeenValues.{look_of}
use Rattle.ds_plan_base.specs.Rooms.{room_for, room_for_from}
use Rattle.ds_plan_base.proofs.rooms.room_for.Given as goal

abbrev pub invariant-loop-number : goal.invariant-loop-number
invariant-loop-number l = record {
  most : l.count ≤ 4 * l.number-index;
  known : (p : Parts) → ReadsParts l.geom (look_of l.seen) p
      → room_for l.geom l.seen p l.dir l.name ≡ room_for_from l.geom l.seen p l.dir l.name l.count l.free (drop l.number-index (subs_of (Some l.dir)));
}

-- Those so far are what their sectors spell.
use Rattle.std.proofs.Common.{slice_get}
use Rattle.ds_image_parts.specs.Readings.{IsReading, SpellsSlot}
use Rattle.ds_check.proofs.controls.slots_of.Given as goal

abbrev pub invariant-loop-number : goal.invariant-loop-number
invariant-loop-number l = IsReading l.number (SpellsSlot l.geom (slice_get l.sectors)) l.slots.items

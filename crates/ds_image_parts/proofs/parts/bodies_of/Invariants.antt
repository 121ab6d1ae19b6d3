-- The parts so far are those that their sectors spell.
use Rattle.std.proofs.Common.{slice_get}
use Rattle.ds_image_parts.specs.Readings.{IsReading, SpellsBody}
use Rattle.ds_image_parts.proofs.parts.bodies_of.Given as goal

abbrev pub invariant-loop-object : goal.invariant-loop-object
invariant-loop-object _ l = IsReading l.object (SpellsBody l.image.geom (slice_get l.image.sectors)) l.bodies.items

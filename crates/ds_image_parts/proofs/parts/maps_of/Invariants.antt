-- The parts so far are those that their sectors spell.
use Rattle.std.proofs.Common.{slice_get}
use Rattle.ds_image_parts.specs.Readings.{IsReading, SpellsBits}
use Rattle.ds_image_parts.proofs.parts.maps_of.Given as goal

abbrev pub invariant-loop-cluster : goal.invariant-loop-cluster
invariant-loop-cluster _ l = IsReading l.cluster (SpellsBits l.image.geom (slice_get l.image.sectors) l.kind) l.maps.items

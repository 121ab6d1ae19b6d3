-- Those so far are what their sectors spell.
use Rattle.std.proofs.Common.{slice_get}
use Rattle.ds_image_parts.specs.Readings.{IsReading}
use Rattle.ds_check.specs.Controls.{SpellsOwner}
use Rattle.ds_check.proofs.controls.descriptors_of.Given as goal

abbrev pub invariant-loop-object : goal.invariant-loop-object
invariant-loop-object l = IsReading l.object (SpellsOwner l.geom (slice_get l.sectors)) l.owners.items

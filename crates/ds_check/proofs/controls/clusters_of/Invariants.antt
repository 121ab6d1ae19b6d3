-- Those so far are what their sectors spell.
use Rattle.std.proofs.Common.{slice_get}
use Rattle.ds_image_parts.specs.Readings.{IsReading}
use Rattle.ds_check.specs.Controls.{SpellsCluster}
use Rattle.ds_check.proofs.controls.clusters_of.Given as goal

abbrev pub invariant-loop-number : goal.invariant-loop-number
invariant-loop-number l = IsReading l.number (SpellsCluster l.geom (slice_get l.sectors) l.kind) l.owners.items

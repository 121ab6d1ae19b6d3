-- Those so far are what their sectors spell.
use Rattle.ds_image_parts.specs.Readings.{IsReading}
use Rattle.ds_check.specs.Controls.{SpellsPending}
use Rattle.ds_check.proofs.controls.pending_of.Given as goal

abbrev pub invariant-loop-number : goal.invariant-loop-number
invariant-loop-number l = IsReading l.number (SpellsPending l.geom l.sectors) l.pending.items

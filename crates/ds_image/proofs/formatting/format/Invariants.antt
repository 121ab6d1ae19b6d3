-- The sectors so far are those of the places in front of the next.
use Rattle.ds_image.proofs.NewVolumes.FormattedUpTo.{IsFormattedUpTo}
use Rattle.ds_image.proofs.formatting.format.Given as goal

abbrev pub invariant-loop-at : goal.invariant-loop-at
invariant-loop-at l = IsFormattedUpTo l.geom l.volume l.at l.sectors.items

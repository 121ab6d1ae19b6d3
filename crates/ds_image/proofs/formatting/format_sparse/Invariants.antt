-- The sectors so far are those of the places in front of the next.
use Rattle.ds_image.proofs.NewVolumes.FormattedInFront.{IsFormattedInFront}
use Rattle.ds_image.proofs.formatting.format_sparse.Given as goal

abbrev pub invariant-loop-at : goal.invariant-loop-at
invariant-loop-at l = IsFormattedInFront l.geom l.volume l.at l.lun.sectors

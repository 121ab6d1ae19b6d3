-- The bodies of a new volume are bodies.
use Rattle.std.proofs.Common.{sym, subst}
use Rattle.ds_fd.specs.Body.{InRanges}
use Rattle.ds_image.proofs.NewVolumes.FreshVolume.{fresh_body_ranges}
use Rattle.ds_image.proofs.formatting.sector_for.Goals as goal

pub encode-requires-in-Body : goal.encode-requires-in-Body
encode-requires-in-Body c = subst InRanges (sym c.fresh_body.ensures) (fresh_body_ranges c.in-Body.object)

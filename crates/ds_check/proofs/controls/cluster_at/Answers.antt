-- The owner is that in the header of the cluster's lock object.
use Rattle.std.proofs.Common.{slice_get, subst}
use Rattle.ds_base.specs.Decoding.{IsDecoded}
use Rattle.ds_check.specs.Controls.{SpellsOwner}
use Rattle.ds_check.proofs.controls.cluster_at.Goals as goal

pub returns : goal.returns
returns c =
    subst (λ object. IsDecoded c.owner_at.result (SpellsOwner c.args.geom.now (slice_get c.args.sectors.now) object)) c.cluster_lock.ensures c.owner_at.ensures

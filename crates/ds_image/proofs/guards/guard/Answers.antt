-- The guard of the sector's place is the sector's.
use Rattle.std.proofs.Common.{slice_get}
use Rattle.ds_image.proofs.Guarding.{guard_exact, guard_there}
use Rattle.ds_image.proofs.guards.guard.Goals as goal

pub returns-clause-exact : goal.returns-clause-exact
returns-clause-exact _ c =
    let image = c.args.image.now in
    let there = rw c.geom.ensures.value at c.in_ok-place.ensures.place in
    guard_exact image.geom (slice_get image.sectors) c.in_ok-place.place c.args.at c.guard_of.result c.geom.ensures.whole.is_geom c.geom.ensures.whole.blocks
    there.0 there.1 c.guard_of.ensures

pub returns-clause-metadata : goal.returns-clause-metadata
returns-clause-metadata _ c =
    let image = c.args.image.now in
    let there = rw c.geom.ensures.value at c.in_ok-place.ensures.place in
    guard_there image.geom (slice_get image.sectors) c.in_ok-place.place c.args.at c.guard_of.result c.geom.ensures.whole.is_geom c.geom.ensures.whole.blocks
    there.0 there.1 c.guard_of.ensures

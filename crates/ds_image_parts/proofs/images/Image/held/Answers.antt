-- The sector is the pending one, or else that of the store.
use Rattle.std.proofs.Common.{◌≡◌, Some, None, rules, arith}
use Rattle.std.specs.BTreeMap.{get}
use Rattle.std.specs.Ordering.{nat_cmp}
use Rattle.ds_image_parts.proofs.Journaling.Replacing.{held-pending, held-stored}
use Rattle.ds_image_parts.proofs.images.Image.held.Goals as goal

pub returns-in-Some : goal.returns-in-Some
returns-in-Some g c =
    let image = c.self.inside in
    let sectors = g.S.Store.sectors image.store.now in
    let is : get nat_cmp image.pending c.args.at ≡ Some c.in-Some.sector.now = search rules in
    rw (← c.self.view_is)
    (held-pending image.geom sectors (get nat_cmp image.pending) c.args.at c.in-Some.sector.now (rw (← c.self.view_is) at c.requires)
    (omega (arith, c.self.invariant.1)) is)

pub returns-in-None : goal.returns-in-None
returns-in-None g c =
    let image = c.self.inside in
    let sectors = g.S.Store.sectors image.store.now in
    let none : get nat_cmp image.pending c.args.at ≡ None = search rules in
    rw (← c.self.view_is)
    (held-stored image.geom sectors (get nat_cmp image.pending) c.args.at c.sector.result (rw (← c.self.view_is) at c.requires)
    (omega (arith, c.self.invariant.1)) none c.sector.ensures)

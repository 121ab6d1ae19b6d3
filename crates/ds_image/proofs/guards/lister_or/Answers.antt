-- The least descriptor that lists the item is the first that is found.
use Rattle.std.proofs.Common.{sym, slice_get, ◌∙◌, arith}
use Rattle.ds_image.proofs.Guarding.{lister_found, lister_none}
use Rattle.ds_image.proofs.guards.lister_or.Goals as goal

pub returns-then-lists : goal.returns-then-lists
returns-then-lists _ c p reads =
    let image = c.args.image.now in
    lister_found image.geom (slice_get image.sectors) c.args.kind p c.args.n c.loop-object.object c.args.cluster reads
    (rw c.geom.ensures.value at (rw c.items-object-end.ensures at c.loop-object-test.true)) (c.loop-object.invariant p reads) (sym (c.lists.ensures p reads) ∙ c.if-lists.true)

pub returns : goal.returns
returns _ c p reads =
    let image = c.args.image.now in
    lister_none image.geom (slice_get image.sectors) c.args.kind p c.args.n c.args.cluster reads
    (λ i l. c.loop-object.invariant p reads i (omega (arith, rw c.geom.ensures.value at c.items-object-end.ensures, c.loop-object-test.false, c.loop-object.auto, l)))

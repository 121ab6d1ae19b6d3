-- The sectors in front of the file blocks, with all pairs laid over them, are the logical image.
use Rattle.std.proofs.Common.{◌≡◌, ℕ, None, take, slice_get, subst, rules, arith}
use Rattle.std.specs.BTreeMap.{get}
use Rattle.std.specs.Ordering.{nat_cmp}
use Rattle.ds_layout.specs.Places.{blocks_at}
use Rattle.ds_image_parts.specs.Laying.{Lays, ArePendingBelow}
use Rattle.ds_image_parts.specs.Looks.{AreBlocks}
use Rattle.ds_image_parts.specs.Replaced.{image_of}
use Rattle.ds_image_parts.proofs.Journaling.Laying.{first_block, logical_laid, image_pending}
use Rattle.ds_image_parts.proofs.logical.overlaid.Goals as goal

pub sector_of-end-requires-clause-inside : goal.sector_of-end-requires-clause-inside
sector_of-end-requires-clause-inside g c = first_block c.args.geom.now c.requires.geom

pub with_pending-requires-clause-image : goal.with_pending-requires-clause-image
with_pending-requires-clause-image g c =
    let geom = c.args.geom.now in
    let sectors = g.S.Store.sectors c.args.store.now in
    let old = get nat_cmp c.new-pending.result in
    let new = get nat_cmp c.lay_all.new.pending in
    let none : (k : ℕ) → old k ≡ None = λ k. search (c.new-pending.ensures) in
    let end : c.sector_of-end.result ≡ blocks_at geom = omega (arith, c.sector_of-end.ensures) in
    let lays : Lays (ArePendingBelow geom sectors geom.slots) (image_of geom sectors old) (image_of geom sectors new) = search rules in
    image_pending geom sectors old new c.requires.geom c.requires.size none
    (subst (λ (n : ℕ). AreBlocks (slice_get (take n sectors))) end c.read_front.ensures) lays

pub returns-clause-logical : goal.returns-clause-logical
returns-clause-logical g c =
    let geom = c.args.geom.now in
    let sectors = g.S.Store.sectors c.args.store.now in
    let old = get nat_cmp c.new-pending.result in
    let new = get nat_cmp c.lay_all.new.pending in
    let none : (k : ℕ) → old k ≡ None = λ k. search (c.new-pending.ensures) in
    let lays : Lays (ArePendingBelow geom sectors geom.slots) (image_of geom sectors old) (image_of geom sectors new) = search rules in
    rw c.with_pending.ensures.sectors (logical_laid geom sectors old new none lays)

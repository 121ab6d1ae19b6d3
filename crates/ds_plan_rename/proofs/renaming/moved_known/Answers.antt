-- The room that was found is free, and a directory without one can grow.
use Rattle.std.proofs.Common.{◌<◌, Some, None, sym, ap, subst, ◌∙◌}
use Rattle.std.specs.Prelude.{Ok}
use Rattle.ds_base.specs.Geometry.{items_of}
use Rattle.ds_base.specs.declared.geometry.Kind.TheVariants.{Sb}
use Rattle.ds_image_parts.specs.Objects.{subs_of}
use Rattle.ds_image.specs.SeenValues.{look_of}
use Rattle.ds_image_parts.proofs.Spelling.Readings.{parts_there}
use Rattle.ds_plan_base.proofs.Known.{room-known, room-free, can-grow}
use Rattle.ds_plan_base.proofs.NewBodies.{item-within}
use Rattle.ds_plan_rename.proofs.renaming.moved_known.Goals as goal

pub other_sub-requires-clause-inside : goal.other_sub-requires-clause-inside
other_sub-requires-clause-inside c =
    let g = c.args.geom.now in
    let there = parts_there g (look_of c.args.seen.now) c.requires.geom c.requires.seen.blocks in
    let known = room-known g c.args.seen.now there.0 there.1 c.args.to.now c.args.fresh.now (Some c.in-Some.free) (sym (c.room_for.ensures there.0 there.1) ∙ c.in_ok-free.was ∙ ap Ok c.in-Some.is) in
    (room-free g c.args.seen.now there.0 there.1 c.args.to.now (subs_of (Some c.args.to.now)) c.in-Some.free known.2).1

pub redo_moved-redo-requires-clause-room : goal.redo_moved-redo-requires-clause-room
redo_moved-redo-requires-clause-room c =
    let g = c.args.geom.now in
    let there = parts_there g (look_of c.args.seen.now) c.requires.geom c.requires.seen.blocks in
    let known = room-known g c.args.seen.now there.0 there.1 c.args.to.now c.args.fresh.now (Some c.in-Some.free) (sym (c.room_for.ensures there.0 there.1) ∙ c.in_ok-free.was ∙ ap Ok c.in-Some.is) in
    (room-free g c.args.seen.now there.0 there.1 c.args.to.now (subs_of (Some c.args.to.now)) c.in-Some.free known.2).0

pub redo_moved-redo-requires-clause-sub : goal.redo_moved-redo-requires-clause-sub
redo_moved-redo-requires-clause-sub c =
    let g = c.args.geom.now in
    let there = parts_there g (look_of c.args.seen.now) c.requires.geom c.requires.seen.blocks in
    let known = room-known g c.args.seen.now there.0 there.1 c.args.to.now c.args.fresh.now (Some c.in-Some.free) (sym (c.room_for.ensures there.0 there.1) ∙ c.in_ok-free.was ∙ ap Ok c.in-Some.is) in
    (room-free g c.args.seen.now there.0 there.1 c.args.to.now (subs_of (Some c.args.to.now)) c.in-Some.free known.2).1

pub other_sub-requires-in-None-clause-inside : goal.other_sub-requires-in-None-clause-inside
other_sub-requires-in-None-clause-inside c =
    let g = c.args.geom.now in
    subst (λ n. n < items_of g Sb) (sym c.number_of.ensures) (item-within g Sb c.in_ok-sub-in-None.sub c.in_ok-sub-in-None.ensures.is_free)

pub redo_grown-redo-requires-clause-to : goal.redo_grown-redo-requires-clause-to
redo_grown-redo-requires-clause-to c =
    let g = c.args.geom.now in
    let there = parts_there g (look_of c.args.seen.now) c.requires.geom c.requires.seen.blocks in
    let known = room-known g c.args.seen.now there.0 there.1 c.args.to.now c.args.fresh.now None (sym (c.room_for.ensures there.0 there.1) ∙ c.in_ok-free.was ∙ ap Ok c.in-None.is) in
    can-grow g c.args.seen.now there.0 there.1 c.args.to.now c.args.fresh.now known.0 c.requires.is_body c.requires.is_dir known.1 known.2

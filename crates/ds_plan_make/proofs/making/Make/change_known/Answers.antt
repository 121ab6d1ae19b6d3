-- What is written can be spelled, and is what is known.
use Rattle.std.proofs.Common.{◌≡◌, Some, None, sym, ap, subst, ◌∙◌}
use Rattle.std.specs.Prelude.{Result, Ok}
use Rattle.ds_image_parts.specs.Objects.{subs_of}
use Rattle.ds_image.specs.SeenValues.{look_of}
use Rattle.ds_image_parts.specs.Readings.{ReadsParts}
use Rattle.ds_image_parts.proofs.Spelling.Readings.{parts_there}
use Rattle.ds_plan_make.specs.Answers.{MakeValue, change_known}
use Rattle.ds_plan_make.specs.declared.making.Making.{Making}
use Rattle.ds_plan_make.proofs.Known.{grown-is}
use Rattle.ds_plan_base.proofs.Known.{room-known, room-free, grow-known}
use Rattle.ds_plan_make.proofs.making.Make.change_known.Goals as goal
use Rattle.ds_plan_base.specs.declared.stops.Stop.{Stop}

pub redo_filled-requires-clause-room : goal.redo_filled-requires-clause-room
redo_filled-requires-clause-room c =
    let g = c.self.inside.geom in
    let there = parts_there g (look_of c.args.seen.now) c.self.invariant.0 c.in_ok-new.ensures.whole.blocks in
    let known = room-known g c.args.seen.now there.0 there.1 c.in_ok-dir.dir c.self.inside.name (Some c.in-Some.free) (sym (c.room_for.ensures there.0 there.1) ∙ c.in_ok-free.was ∙ ap Ok c.in-Some.is) in
    (room-free g c.args.seen.now there.0 there.1 c.in_ok-dir.dir (subs_of (Some c.in_ok-dir.dir)) c.in-Some.free
    known.2).0

pub redo_filled-requires-clause-sub : goal.redo_filled-requires-clause-sub
redo_filled-requires-clause-sub c =
    let g = c.self.inside.geom in
    let there = parts_there g (look_of c.args.seen.now) c.self.invariant.0 c.in_ok-new.ensures.whole.blocks in
    let known = room-known g c.args.seen.now there.0 there.1 c.in_ok-dir.dir c.self.inside.name (Some c.in-Some.free) (sym (c.room_for.ensures there.0 there.1) ∙ c.in_ok-free.was ∙ ap Ok c.in-Some.is) in
    (room-free g c.args.seen.now there.0 there.1 c.in_ok-dir.dir (subs_of (Some c.in_ok-dir.dir)) c.in-Some.free
    known.2).1

pub redo_grown-requires-clause-dir : goal.redo_grown-requires-clause-dir
redo_grown-requires-clause-dir c =
    let g = c.self.inside.geom in
    let there = parts_there g (look_of c.args.seen.now) c.self.invariant.0 c.in_ok-new.ensures.whole.blocks in
    let known = room-known g c.args.seen.now there.0 there.1 c.in_ok-dir.dir c.self.inside.name None (sym (c.room_for.ensures there.0 there.1) ∙ c.in_ok-free.was ∙ ap Ok c.in-None.is) in
    grow-known g c.args.seen.now there.0 there.1 c.self.inside.dir c.in_ok-dir.dir c.self.inside.name known.0
    (sym (c.dir_of_key.ensures.answer there.0 there.1) ∙ c.in_ok-dir.was) known.1 known.2

pub returns-in_ok-sub-in-None-clause-answer : goal.returns-in_ok-sub-in-None-clause-answer
returns-in_ok-sub-in-None-clause-answer c p reads =
    subst
    (λ (own : MakeValue). ReadsParts own.geom (look_of c.args.seen.now) p
    → ◌≡◌ {A = Result Making Stop} (Ok (record { redo = c.redo_grown.result; key = c.in_ok-new.new.entry.key })) (change_known own.geom own.slot c.args.seen.now p own.dir own.name own.kind))
    c.self.view_is
    (λ reads.
    grown-is c.self.inside.geom c.self.inside.slot c.args.seen.now p c.self.inside.dir c.self.inside.name c.self.inside.kind c.in_ok-dir.dir c.in_ok-new.new c.in_ok-sub-in-None.sub c.redo_grown.result
    (sym (c.dir_of_key.ensures.answer p reads) ∙ c.in_ok-dir.was) (sym (c.room_for.ensures p reads) ∙ c.in_ok-free.was ∙ ap Ok c.in-None.is)
    (sym (c.object_known.ensures.answer p reads) ∙ c.in_ok-new.was)
    (sym (c.wanted_item.ensures.answer p reads) ∙ c.in_ok-sub-in-None.was) c.redo_grown.ensures)
    reads

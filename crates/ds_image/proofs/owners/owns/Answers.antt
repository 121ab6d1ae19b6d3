-- A list that can't be marked has no owner of all its items; where all can, the marks say which bits are set.
use Rattle.std.proofs.Common.{◌≡◌, [], false, length, map, sym, ap, subst, ◌∙◌}
use Rattle.std.specs.Prelude.{replicate}
use Rattle.std.proofs.lemmas.Bool.{false≢true}
use Rattle.std.proofs.lemmas.List.{length-replicate}
use Rattle.ds_image_parts.specs.Listings.{listed_by}
use Rattle.ds_image_tables.specs.Owned.{CanMark}
use Rattle.ds_image_tables.specs.Owns.{Owns}
use Rattle.ds_image_tables.proofs.Ownership.OwnedLists.{owned-more, owned-all, owned-not}
use Rattle.ds_image_tables.proofs.Ownership.Owning.{owns-none}
use Rattle.ds_image.proofs.owners.owns.Goals as goal

pub loop-body-init : goal.loop-body-init
loop-body-init _ c =
    let clear : c.in_ok-marks.marks ≡ replicate (length c.args.bits.now) false = c.in_ok-marks.ensures in
    record {
      owns = subst (Owns []) (sym clear) (owns-none (length c.args.bits.now));
      count = ap length clear ∙ length-replicate (length c.args.bits.now) false;
    }

pub loop-body-preserved : goal.loop-body-preserved
loop-body-preserved _ c =
    record {
      owns = owned-more (listed_by c.args.parts.now c.args.what) c.bodies-bodies.result.now c.loop-body.body-index _ c.deref.result.now c.mark_list.new.self c.loop-body-test.true
          (c.deref.ensures.value ∙ c.in_ok-items.ensures)
          (c.mark_list.ensures.owns c.if-not-mark_list.false _ c.loop-body.invariant.owns);
      count = c.mark_list.ensures.count ∙ c.loop-body.invariant.count;
    }

pub returns-then-not-mark_list : goal.returns-then-not-mark_list
returns-then-not-mark_list _ c =
    let f = listed_by c.args.parts.now c.args.what in
    let cannot : ¬ CanMark c.loop-body.marks c.deref.result.now = λ can. false≢true (sym c.if-not-mark_list.true ∙ c.mark_list.ensures.exact.1 can) in
    let not_all = owned-not f c.bodies-bodies.result.now c.loop-body.body-index _ c.deref.result.now c.loop-body.marks c.args.bits.now c.loop-body-test.true
    (c.deref.ensures.value ∙ c.in_ok-items.ensures) c.loop-body.invariant.owns c.loop-body.invariant.count cannot in
    (λ wrong. absurd (false≢true wrong), λ owns. absurd (not_all (subst (λ bodies. Owns (map f bodies) c.args.bits.now) (sym c.bodies-bodies.ensures) owns)))

pub returns : goal.returns
returns _ c =
    let f = listed_by c.args.parts.now c.args.what in
    let all = owned-all f c.bodies-bodies.result.now c.loop-body.body-index c.loop-body.marks c.args.bits.now c.are.result c.loop-body-test.false
    c.loop-body.invariant.owns c.loop-body.invariant.count c.are.ensures in (
      λ yes. subst (λ bodies. Owns (map f bodies) c.args.bits.now) c.bodies-bodies.ensures (all.0 yes),
      λ owns. all.1 (subst (λ bodies. Owns (map f bodies) c.args.bits.now) (sym c.bodies-bodies.ensures) owns),
    )

use Rattle.std.proofs.Common.{◌++◌, ◌∷◌, [], refl, sym, ap, subst}
use Rattle.std.specs.Prelude.{not}
use Rattle.ds_image_tables.specs.ParentWalks.{walk_to, AreSettled}
use Rattle.ds_image_tables.proofs.Parenthood.WalkingParents.{walk-begins, walk-moves, walk-stops, walk-meets, none-tested, some-tested}
use Rattle.ds_image_tables.proofs.parents.walk.Goals as goal

pub loop-seen-init : goal.loop-seen-init
loop-seen-init c = (refl, walk-begins c.args.parents.now c.args.leads.now c.args.seen.now c.requires.settled c.requires.within)

pub returns-in_default : goal.returns-in_default
returns-in_default c =
    walk-stops c.args.parents.now c.args.leads.now c.loop-seen.seen c.loop-seen.object
    (none-tested (walk_to c.loop-seen.seen c.loop-seen.object) c.is_none.result c.is_none.ensures c.loop-seen-test.true)
    c.loop-seen.invariant.1 c.in_default.ensures

pub loop-seen-preserved : goal.loop-seen-preserved
loop-seen-preserved c =
    let up = c.in-Some.ensures in (
      refl,
      walk-moves c.args.parents.now c.args.leads.now c.loop-seen.seen c.loop-seen.object
          (none-tested (walk_to c.loop-seen.seen c.loop-seen.object) c.is_none.result c.is_none.ensures c.loop-seen-test.true)
          c.in-Some.parent c.loop-seen.invariant.1 up.0 up.1,
    )

pub returns : goal.returns
returns c =
    let met = some-tested (walk_to c.loop-seen.seen c.loop-seen.object) (not c.is_none.result) c.is_none.ensures
    (ap not c.loop-seen-test.false) in
    subst (λ b. AreSettled c.args.parents.now c.loop-seen.seen (c.args.leads.now ++ b ∷ [])) (sym (c.led_by.ensures.some met.0 met.1))
    (walk-meets c.args.parents.now c.args.leads.now c.loop-seen.seen c.loop-seen.object met.0 met.1 c.loop-seen.invariant.1)

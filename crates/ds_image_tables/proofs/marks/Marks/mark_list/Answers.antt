use Rattle.std.proofs.Common.{refl, sym, ◌∙◌, subst}
use Rattle.std.proofs.lemmas.Bool.{false≢true, cond-true, cond-false}
use Rattle.ds_image_tables.specs.Owned.{StopsMarking}
use Rattle.ds_image_tables.proofs.Ownership.MarkedLists.{MarkedFront, front-more, front-stops, front-all, stops-cannot, marked-owns, unmarked-owns}
use Rattle.ds_image_tables.proofs.marks.Marks.mark_list.Goals as goal

stops : (c : goal.Then-not-mark) → StopsMarking c.args.self.now c.args.items.now c.loop-item.item-index c.mark.new.self
stops c =
    let kept = c.mark.ensures.marked ∙ cond-false _ _ _ c.if-not-mark.true in
    subst (StopsMarking c.args.self.now c.args.items.now c.loop-item.item-index) (sym kept)
    (front-stops _ _ _ _ _ c.loop-item-test.true refl c.loop-item.invariant
    (λ free. false≢true (sym c.if-not-mark.true ∙ c.mark.ensures.exact.1 free)))

pub returns-then-not-mark-clause-exact : goal.returns-then-not-mark-clause-exact
returns-then-not-mark-clause-exact c = (λ no. absurd (false≢true no), λ can. absurd (stops-cannot _ _ _ _ (stops c) can))

pub returns-then-not-mark-clause-stops : goal.returns-then-not-mark-clause-stops
returns-then-not-mark-clause-stops c = λ no. (c.loop-item.item-index, stops c)

pub returns-then-not-mark-clause-twice : goal.returns-then-not-mark-clause-twice
returns-then-not-mark-clause-twice c = λ no. unmarked-owns _ _ (stops-cannot _ _ _ _ (stops c))

pub loop-item-preserved : goal.loop-item-preserved
loop-item-preserved c =
    let set_there = c.mark.ensures.marked ∙ cond-true _ _ _ c.if-not-mark.false in
    subst (MarkedFront c.args.self.now c.args.items.now _) (sym set_there)
    (front-more _ _ _ _ _ c.loop-item-test.true refl c.loop-item.invariant (c.mark.ensures.exact.0 c.if-not-mark.false))

pub returns-clause-owns : goal.returns-clause-owns
returns-clause-owns c = λ yes.
    let all = front-all _ _ _ _ c.loop-item-test.false c.loop-item.invariant in
    marked-owns _ _ _ all.0 all.1

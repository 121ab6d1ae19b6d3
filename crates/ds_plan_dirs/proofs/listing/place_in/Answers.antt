-- The names so far are below the new one, and the next decides.
use Rattle.std.proofs.Common.{sym, ◌∙◌}
use Rattle.ds_plan_dirs.proofs.NamesInOrder.{place_less, place_equal, place_greater, place_last}
use Rattle.ds_plan_dirs.proofs.listing.place_in.Goals as goal

pub returns-in-Less-clause-place : goal.returns-in-Less-clause-place
returns-in-Less-clause-place c =
    place_less c.args.names.now c.loop-i.i c.index-names-i.result c.args.name.now c.loop-i-test.true (sym c.cmp.ensures ∙ c.in-Less.is) c.loop-i.invariant

pub returns-in-Equal-clause-place : goal.returns-in-Equal-clause-place
returns-in-Equal-clause-place c =
    place_equal c.args.names.now c.loop-i.i c.index-names-i.result c.args.name.now c.loop-i-test.true (sym c.cmp.ensures ∙ c.in-Equal.is) c.loop-i.invariant

pub loop-i-preserved : goal.loop-i-preserved
loop-i-preserved c =
    place_greater c.args.names.now c.loop-i.i c.index-names-i.result c.args.name.now c.loop-i-test.true (sym c.cmp.ensures ∙ c.in-Greater.is) c.loop-i.invariant

pub returns-clause-place : goal.returns-clause-place
returns-clause-place c =
    place_last c.args.names.now c.loop-i.i c.args.name.now c.loop-i-test.false c.loop-i.auto.i-end c.loop-i.invariant

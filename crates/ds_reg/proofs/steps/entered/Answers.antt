use Rattle.ds_reg.proofs.Going.{again-by, entered-by, twice-by}
use Rattle.ds_reg.proofs.steps.entered.Goals as goal

pub returns-in-Done-clause-goes : goal.returns-in-Done-clause-goes
returns-in-Done-clause-goes c = λ host tick xs has.
    entered-by c.args.geom.now xs c.args.slot tick host c.args.image.now c.args.found.now has.0 c.args.response.now c.in-Done.is

pub returns-then-missed-clause-goes : goal.returns-then-missed-clause-goes
returns-then-missed-clause-goes c = λ host tick xs has.
    twice-by c.args.geom.now xs c.args.slot tick host c.args.image.now c.args.found.now has.0 c.args.response.now c.in-Miscompare.offset
    c.in-Miscompare.is
    c.args.missed c.if-missed.true has.1

pub returns-else-missed-clause-goes : goal.returns-else-missed-clause-goes
returns-else-missed-clause-goes c = λ host tick xs has.
    again-by c.args.geom.now xs c.args.slot tick host c.args.image.now c.args.found.now has.0 c.args.response.now c.in-Miscompare.offset
    c.in-Miscompare.is
    c.args.missed c.if-missed.false has.1

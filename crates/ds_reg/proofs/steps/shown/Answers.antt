use Rattle.std.proofs.Common.{refl}
use Rattle.ds_reg.proofs.Going.{enters-fits, enters-next, passes}
use Rattle.ds_reg.proofs.Taking.{reads-free, reads-taken}
use Rattle.ds_reg.proofs.steps.shown.Goals as goal

pub returns-in-Free-clause-goes : goal.returns-in-Free-clause-goes
returns-in-Free-clause-goes c = λ host tick xs has.
    enters-next c.args.geom.now xs c.args.slot tick c.args.image.now c.args.found.now c.args.missed c.requires.spelled c.in-Free.is has.0
    has.1

pub returns-in_default-clause-goes : goal.returns-in_default-clause-goes
returns-in_default-clause-goes c = λ host tick xs has.
    passes c.args.geom.now xs c.args.slot tick host c.args.image.now c.args.found.now c.past.result c.requires.spelled
    c.in_default.not-Free has.0 c.past.ensures.passes

pub returns-in-Free-clause-reads : goal.returns-in-Free-clause-reads
returns-in-Free-clause-reads c =
    reads-free c.args.geom.now c.args.slot c.args.missed c.args.image.now _ c.args.found.now c.requires.spelled c.in-Free.is refl

pub returns-in_default-clause-reads : goal.returns-in_default-clause-reads
returns-in_default-clause-reads c =
    reads-taken c.args.geom.now c.args.slot c.args.missed c.args.image.now c.past.result c.args.found.now c.requires.spelled
    c.in_default.not-Free
    c.past.ensures.passes

pub returns-in-Free-clause-fits : goal.returns-in-Free-clause-fits
returns-in-Free-clause-fits c =
    enters-fits c.args.geom.now c.args.slot c.args.image.now c.args.found.now c.args.missed c.requires.within c.requires.spelled
    c.in-Free.is

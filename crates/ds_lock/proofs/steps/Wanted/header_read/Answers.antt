use Rattle.std.proofs.Common.{[], sym, ◌∙◌}
use Rattle.ds_lock.proofs.Going.{header-now, no-header}
use Rattle.ds_lock.proofs.steps.Wanted.header_read.Goals as goal

pub header_shown-requires-clause-header : goal.header_shown-requires-clause-header
header_shown-requires-clause-header c =
    let spelled = (c.decode.ensures.spelled c.in-Some.header).0 c.in-Some.is in (spelled.1, spelled.0)

pub returns-in-None-clause-goes : goal.returns-in-None-clause-goes
returns-in-None-clause-goes c = λ notes now.
    no-header c.args.self.now notes now now [] c.args.sector.now c.damaged.result c.damaged.ensures (sym c.decode.ensures.value
    ∙ c.in-None.is)

pub returns-in-Some-clause-goes : goal.returns-in-Some-clause-goes
returns-in-Some-clause-goes c = λ notes now.
    c.header_shown.ensures.goes notes now _
    (header-now c.args.self.now notes now now [] c.args.sector.now c.in-Some.header ((c.decode.ensures.spelled c.in-Some.header).0
    c.in-Some.is))

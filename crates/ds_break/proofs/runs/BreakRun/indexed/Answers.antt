use Rattle.ds_break.proofs.Indexes.{damaged-leads}
use Rattle.ds_break.proofs.runs.BreakRun.indexed.Goals as goal

pub returns-in-None-clause-leads : goal.returns-in-None-clause-leads
returns-in-None-clause-leads c =
    damaged-leads c.args.self.now c.end.new.self c.args.sector.now c.journal_at.result c.end.result c.requires c.journal_at.ensures
    (c.index_of.ensures.none c.in-None.is) c.end.ensures.over c.end.ensures.end

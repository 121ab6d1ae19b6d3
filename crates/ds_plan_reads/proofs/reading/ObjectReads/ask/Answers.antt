-- A sector that is asked for is one of those that the call reads.
use Rattle.std.proofs.Common.{sym, ap, ◌∙◌}
use Rattle.ds_plan_base.specs.Steps.{settled}
use Rattle.ds_plan_reads.proofs.Laws.{reads_needed}
use Rattle.ds_plan_reads.proofs.reading.ObjectReads.ask.Goals as goal

pub returns-in-Err-clause-reads : goal.returns-in-Err-clause-reads
returns-in-Err-clause-reads c at is p reads =
    reads_needed c.args.self.now c.args.seen.now p at reads (sym (ap settled (c.in-Err.ensures p reads)) ∙ sym c.ask.ensures ∙ is)

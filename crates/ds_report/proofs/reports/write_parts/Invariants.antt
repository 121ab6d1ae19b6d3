use Rattle.ds_report.proofs.Given.{IsToldTo}
use Rattle.ds_report.proofs.reports.write_parts.Given as goal

abbrev pub invariant-loop-number : goal.invariant-loop-number
invariant-loop-number l = IsToldTo l.scenario l.events l.replies l.fn.text l.text l.told l.number

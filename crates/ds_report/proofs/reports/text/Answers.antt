use Rattle.ds_report.proofs.TurnsTold.{turns_told}
use Rattle.ds_report.proofs.reports.text.Goals as goal

pub returns-clause-turns : goal.returns-clause-turns
returns-clause-turns c = turns_told c.args.scenario.now c.requires

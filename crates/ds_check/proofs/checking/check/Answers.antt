-- A check has one answer.
use Rattle.ds_check.proofs.OneAnswer.{only-answer}
use Rattle.ds_check.proofs.checking.check.Goals as goal

pub returns-clause-only : goal.returns-clause-only
returns-clause-only c = only-answer c.args.sectors.now c.checked.result c.checked.ensures.findings c.checked.ensures.fault

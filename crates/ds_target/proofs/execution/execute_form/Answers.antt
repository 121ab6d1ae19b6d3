use Rattle.std.proofs.Common.{arith}
use Rattle.ds_target.proofs.Singles.{sectors_after_none}
use Rattle.ds_target.proofs.execution.execute_form.Goals as goal

pub returns-then-count_of-eq0-clause-sectors : goal.returns-then-count_of-eq0-clause-sectors
returns-then-count_of-eq0-clause-sectors c =
    sectors_after_none c.args.lun.now.sectors c.args.form.now c.args.out.now (omega arith)

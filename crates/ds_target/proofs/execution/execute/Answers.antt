use Rattle.std.proofs.Common.{subst}
use Rattle.std.specs.Prelude.{Result, Ok}
use Rattle.ds_scsi.specs.declared.command_blocks.Cdb.{Cdb}
use Rattle.ds_scsi.specs.declared.command_blocks.CdbFault.{CdbFault}
use Rattle.ds_target.specs.Execution.{IsTheReply}
use Rattle.ds_target.proofs.OneReply.{one_reply}
use Rattle.ds_target.proofs.execution.execute.Goals as goal

pub returns-in-Ok-clause-only : goal.returns-in-Ok-clause-only
returns-in-Ok-clause-only c =
    let P : Result Cdb CdbFault → Type 0 = λ read. IsTheReply c.args.lun.now.sectors read c.args.out.now c.execute_form.result in
    subst P c.in-Ok.ensures.exact (one_reply c.args.lun.now.sectors (Ok c.in-Ok.form) c.args.out.now c.execute_form.result c.execute_form.ensures.reply)

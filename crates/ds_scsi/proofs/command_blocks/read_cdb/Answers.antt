use Rattle.ds_scsi.proofs.Asking.{cdb_at-asks}
use Rattle.ds_scsi.proofs.command_blocks.read_cdb.Goals as goal

pub returns-clause-asked : goal.returns-clause-asked
returns-clause-asked c = λ form. rw c.look_at.ensures.exact (cdb_at-asks c.args.bytes.now form)

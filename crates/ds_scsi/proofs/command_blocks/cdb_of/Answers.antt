use Rattle.std.proofs.Common.{arith}
use Rattle.ds_scsi.proofs.Rereading.{reads_again}
use Rattle.ds_scsi.proofs.command_blocks.cdb_of.Goals as goal

pub returns-in-Read-clause-reads : goal.returns-in-Read-clause-reads
returns-in-Read-clause-reads c = rw (c.block_of.ensures, c.in-Read.is) (reads_again c.in-Read.at (omega arith)).0

pub returns-in-Write-clause-reads : goal.returns-in-Write-clause-reads
returns-in-Write-clause-reads c = rw (c.block_of-in-Write.ensures, c.in-Write.is) (reads_again c.in-Write.at (omega arith)).1

pub returns-in-Swap-clause-reads : goal.returns-in-Swap-clause-reads
returns-in-Swap-clause-reads c = rw (c.block_of-in-Swap.ensures, c.in-Swap.is) (reads_again c.in-Swap.at (omega arith)).2

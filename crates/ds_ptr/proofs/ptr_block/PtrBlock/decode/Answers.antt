use Rattle.std.proofs.Common.{arith}
use Rattle.ds_ptr.proofs.Laws.{read_whole}
use Rattle.ds_ptr.proofs.ptr_block.PtrBlock.decode.Goals as goal

pub returns-clause-spelled : goal.returns-clause-spelled
returns-clause-spelled c = read_whole c.args.sector.now.bytes _ (omega arith) c.u32s_at.ensures.items

use Rattle.std.proofs.Common.{refl, arith}
use Rattle.ds_bytes.specs.Fields.{zeros}
use Rattle.ds_bytes.proofs.writer.SectorWriter.new.Goals as goal

pub invariant_of-result : goal.invariant_of-result
unfolding zeros
invariant_of-result c = (omega arith, refl)

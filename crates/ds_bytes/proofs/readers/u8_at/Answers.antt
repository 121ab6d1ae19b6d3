use Rattle.std.proofs.Common.{arith}
use Rattle.ds_bytes.proofs.Fronts.{front_byte}
use Rattle.ds_bytes.proofs.readers.u8_at.Goals as goal

pub returns : goal.returns
returns c = front_byte c.args.at c.args.bytes.now (omega arith) (omega (arith, c.type_inv.bytes c.args.at))

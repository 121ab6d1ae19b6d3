use Rattle.std.proofs.Common.{length, arith}
use Rattle.ds_bytes.proofs.Written.{length-seen, written}
use Rattle.ds_bytes.proofs.writer.SectorWriter.bytes.Goals as goal

pub invariant_of-self : goal.invariant_of-self
invariant_of-self c =
    let seen = length-seen c.self.inside.at c.self.inside.bytes c.args.self.now (omega arith) c.self.view_is in
    (omega arith, written c.self.inside.at (length c.args.more.now) c.self.inside.bytes c.copy_from_slice.new.self (omega arith) (omega arith) c.self.invariant.1)

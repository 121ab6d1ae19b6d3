use Rattle.std.proofs.Common.{◌-◌, length}
use Rattle.ds_bytes.proofs.Written.{numbers_padded}
use Rattle.ds_bytes.proofs.writer.SectorWriter.u32s_padded.Goals as goal

pub returns-clause-items : goal.returns-clause-items
returns-clause-items c =
    numbers_padded c.args.self.now c.u32s.new.self c.zeros.new.self c.args.ns.now (c.args.room - length c.args.ns.now) c.u32s.ensures.items c.zeros.ensures.items

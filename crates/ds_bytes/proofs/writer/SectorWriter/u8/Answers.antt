use Rattle.std.proofs.Common.{◌++◌, sym, ap, ◌∙◌, arith}
use Rattle.ds_bytes.proofs.Little.{little_1}
use Rattle.ds_bytes.proofs.writer.SectorWriter.u8.Goals as goal

pub returns-clause-items : goal.returns-clause-items
returns-clause-items c =
    c.bytes.ensures.items ∙ ap (λ r. c.args.self.now ++ r) (sym (little_1 c.args.n (omega arith)))

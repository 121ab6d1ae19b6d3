use Rattle.std.proofs.Common.{◌++◌, ap, ◌∙◌}
use Rattle.ds_bytes.proofs.Little.{low_first}
use Rattle.ds_bytes.proofs.writer.SectorWriter.u64.Goals as goal

pub returns-clause-items : goal.returns-clause-items
returns-clause-items c =
    c.bytes.ensures.items ∙ ap (λ r. c.args.self.now ++ r) (c.to_le_bytes.ensures ∙ low_first 8 c.args.n)

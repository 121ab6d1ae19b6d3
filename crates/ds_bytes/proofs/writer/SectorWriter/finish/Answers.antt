use Rattle.std.proofs.Common.{ap, ◌∙◌, arith}
use Rattle.ds_bytes.specs.Fields.{padded}
use Rattle.ds_bytes.proofs.Written.{whole_written}
use Rattle.ds_bytes.proofs.writer.SectorWriter.finish.Goals as goal

pub returns : goal.returns
returns c =
    whole_written c.self.inside.at c.self.inside.bytes (omega arith) c.self.invariant.1 ∙ ap padded c.self.view_is

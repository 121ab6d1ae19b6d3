use Rattle.std.proofs.Common.{◌++◌, ap, ◌∙◌, arith}
use Rattle.ds_bytes.specs.Fields.{zeros}
use Rattle.ds_bytes.proofs.Written.{length-seen, rest_stays, zeros_written}
use Rattle.ds_bytes.proofs.writer.SectorWriter.zeros.Goals as goal

pub invariant_of-self : goal.invariant_of-self
invariant_of-self c =
    let seen = length-seen c.self.inside.at c.self.inside.bytes c.args.self.now (omega arith) c.self.view_is in
    (omega arith, rest_stays c.self.inside.at c.args.count c.self.inside.bytes c.self.invariant.1)

pub returns-clause-items : goal.returns-clause-items
returns-clause-items c =
    let seen = length-seen c.self.inside.at c.self.inside.bytes c.args.self.now (omega arith) c.self.view_is in
    zeros_written c.self.inside.at c.args.count c.self.inside.bytes (omega arith) c.self.invariant.1
    ∙ ap (λ r. r ++ zeros c.args.count) c.self.view_is

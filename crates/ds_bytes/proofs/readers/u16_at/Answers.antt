use Rattle.std.proofs.Common.{◌++◌, ap, ◌∙◌}
use Rattle.ds_bytes.specs.Fields.{front}
use Rattle.ds_bytes.proofs.Fronts.{spells_2}
use Rattle.ds_bytes.proofs.readers.u16_at.Goals as goal

pub returns : goal.returns
returns c =
    let read = c.bytes_at.ensures in
    read.items ∙ ap (λ r. front c.args.at c.args.bytes.now ++ r) (spells_2 c.bytes_at.result c.from_le_bytes.result read.len read.below c.from_le_bytes.ensures)

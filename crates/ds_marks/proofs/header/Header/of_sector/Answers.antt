use Rattle.std.proofs.Common.{◌≡◌, length, rules}
use Rattle.ds_bytes.specs.Fields.{AllBelow}
use Rattle.ds_marks.proofs.HeaderIn.{header_in-only}
use Rattle.ds_marks.proofs.header.Header.of_sector.Goals as goal

pub returns-clause-value : goal.returns-clause-value
returns-clause-value c =
    let bytes = c.args.sector.bytes in
    let size : length bytes ≡ 512 = search rules in
    let below : AllBelow 256 bytes = search rules in
    header_in-only c.args.object bytes c.spelled.result size below c.spelled.ensures

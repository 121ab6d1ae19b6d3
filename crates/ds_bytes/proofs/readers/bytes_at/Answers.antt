use Rattle.std.proofs.Common.{◌≡◌, ◌+◌, ◌-◌, take, drop, ap, ◌∙◌, arith}
use Rattle.ds_bytes.proofs.Fronts.{front_read}
use Rattle.ds_bytes.proofs.readers.bytes_at.Goals as goal

pub returns-clause-items : goal.returns-clause-items
returns-clause-items g c =
    let bytes = c.args.bytes.now in
    let count : c.args.at + g.row.N - c.args.at ≡ g.row.N = omega arith in
    front_read c.args.at g.row.N bytes _ (c.copy_from_slice.ensures.after ∙ ap (λ n. take n (drop c.args.at bytes)) count)

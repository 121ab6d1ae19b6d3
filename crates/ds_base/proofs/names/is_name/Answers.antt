use Rattle.std.proofs.Common.{◌≤◌, length, arith}
use Rattle.std.proofs.lemmas.Bool.Decides.{nat_tests}
use Rattle.ds_base.proofs.NameTests.{IsName-by_dots}
use Rattle.ds_base.proofs.names.is_name.Goals as goal

pub returns-then-are_name_bytes : goal.returns-then-are_name_bytes
returns-then-are_name_bytes c =
    let bytes = c.args.bytes.now in
    let nonempty : 1 ≤ length bytes = grind (arith, nat_tests) in
    IsName-by_dots bytes _ c.is_dot_or_dots.ensures nonempty (omega arith) cc

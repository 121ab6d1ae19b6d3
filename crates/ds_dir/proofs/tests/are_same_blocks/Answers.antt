use Rattle.std.proofs.Common.{rules}
use Rattle.ds_dir.proofs.Laws.{sub_eq}
use Rattle.ds_dir.proofs.tests.are_same_blocks.Goals as goal

pub returns : goal.returns
returns c = sub_eq (λ x y. search rules) c.args.a.now c.args.b.now c.eq.result c.eq.ensures

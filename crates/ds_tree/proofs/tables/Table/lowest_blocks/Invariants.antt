use Rattle.std.proofs.Common.{◌≡◌, nat_eq, take, filter}
use Rattle.std.specs.Prelude.{not}
use Rattle.std.specs.List.{list_any, range_with_len}
use Rattle.ds_tree.specs.Nodes.{all_blocks}
use Rattle.ds_tree.proofs.tables.Table.lowest_blocks.Given as goal

abbrev pub invariant-loop-block : goal.invariant-loop-block
invariant-loop-block l = l.free.items ≡ take l.count (filter (λ b. not (list_any (nat_eq b) (all_blocks l.self.tree))) (range_with_len 0 l.block))

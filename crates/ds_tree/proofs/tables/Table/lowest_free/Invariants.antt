use Rattle.std.proofs.Common.{ℕ, ◌<◌}
use Rattle.std.specs.Prelude.{IsSome}
use Rattle.ds_tree.specs.Nodes.{node_at}
use Rattle.ds_tree.proofs.tables.Table.lowest_free.Given as goal

abbrev pub invariant-loop-object : goal.invariant-loop-object
invariant-loop-object l = (n : ℕ) → n < l.object → IsSome (node_at l.self.tree n)

use Rattle.std.proofs.Common.{ℕ, List, length}
use Rattle.std.specs.Prelude.{option_copied}
use Rattle.ds_base.specs.declared.names.Key.{Key}
use Rattle.ds_tree.specs.Nodes.{node_at, birth_at}
use Rattle.ds_tree.specs.Steps.{entries_above}
use Rattle.ds_tree.specs.Trees.{entries_of}
use Rattle.ds_tree.proofs.Pages.{Paged}
use Rattle.ds_tree.proofs.tables.Table.list.Given as goal

abbrev pub invariant-loop-name : goal.invariant-loop-name
invariant-loop-name l = Paged (λ (e : List ℕ × ℕ). let pair : List ℕ × Key = (e.0, record { object = e.1; birth = birth_at l.self.tree e.1 }) in pair)
    (entries_above (entries_of (node_at l.self.tree l.dir)) (option_copied l.fn.after)) 32 l.page.items l.rest

abbrev pub decreases-loop-name : goal.decreases-loop-name
decreases-loop-name l = length l.rest

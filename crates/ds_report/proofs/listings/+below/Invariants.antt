use Rattle.std.proofs.Common.{◌+◌, ◌*◌, length}
use Rattle.std.specs.Option.{option_copied}
use Rattle.ds_tree.specs.Nodes.{node_at}
use Rattle.ds_tree.specs.Trees.{entries_of}
use Rattle.ds_tree.specs.Steps.{entries_above}
use Rattle.ds_report.proofs.NextEntries.{IsListedTo}
use Rattle.ds_report.proofs.listings.+below.Given as goal

abbrev pub decreases-write_below : goal.decreases-write_below
decreases-write_below l = 2 * l.levels

abbrev pub decreases-write_entries : goal.decreases-write_entries
decreases-write_entries l = 2 * l.levels + 1

abbrev pub invariant-write_entries-loop-name : goal.invariant-write_entries-loop-name
invariant-write_entries-loop-name l =
    IsListedTo l.levels l.tree.tree l.path l.dir l.fn.text l.text (option_copied l.after)

abbrev pub decreases-write_entries-loop-name : goal.decreases-write_entries-loop-name
decreases-write_entries-loop-name l = length (entries_above (entries_of (node_at l.tree.tree l.dir)) (option_copied l.after))

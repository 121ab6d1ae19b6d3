use Rattle.std.proofs.Common.{◌≡◌, ℕ, List, sym, ap, subst, ◌∙◌, Option}
use Rattle.std.specs.FinMap as maps
use Rattle.ds_tree.specs.Nodes.{Dir, node_at, with_node}
use Rattle.ds_tree.specs.Trees.{entries_of, rooms_of}
use Rattle.ds_dir.specs.declared.sub_block.Entry.{Entry}
use Rattle.ds_world.specs.FirstTrees.{with_name, IsRooted}
use Rattle.ds_world.proofs.FirstTreeBuilt.{named_rooted}
use Rattle.ds_world.proofs.first_tree.put_name.Goals as goal

pub returns-in_ok-put_entry-clause-named : goal.returns-in_ok-put_entry-clause-named
returns-in_ok-put_entry-clause-named c = λ rest names rooms some rooted.
    let t = c.args.tree.now.tree in
    let u = c.put_entry.new.self.tree in
    let e = c.in-Some.entry in
    let put : u ≡ with_node t 0 (Dir (maps.insert (entries_of (node_at t 0)) c.copy_of.result e.key.object) (rooms_of (node_at t 0))) = c.in_ok-put_entry.ensures.ok in
    let made = put ∙ ap (λ (name : List ℕ). with_node t 0 (Dir (maps.insert (entries_of (node_at t 0)) name e.key.object) (rooms_of (node_at t 0)))) c.copy_of.ensures in
    let P : Option Entry → Type 0 = λ room. IsRooted rest (with_name names room) rooms u in
    subst P (sym c.in-Some.is) (named_rooted rest names rooms t u e.name e.key.object some rooted made)

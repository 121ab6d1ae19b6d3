use Rattle.std.proofs.Common.{◌≡◌, arith}
use Rattle.std.specs.FinMap as maps
use Rattle.ds_tree.specs.Nodes.{node_at}
use Rattle.ds_tree.specs.Trees.{entries_of}
use Rattle.ds_tree.proofs.ObjectLists.{dir_parts}
use Rattle.ds_tree.proofs.tables.Table.entry_count.Goals as goal

pub overflow_cast-result : goal.overflow_cast-result
overflow_cast-result c =
    let n = node_at c.args.self.now.tree c.args.dir in
    let dir = c.requires.tree.dirs c.args.dir _ _ (dir_parts n c.requires.dir) in
    let few = dir.have_rooms in
    let most = dir.most in
    let same : c.len.result ≡ maps.len (entries_of n) = grind (arith) in
    omega (arith, few, most, same)

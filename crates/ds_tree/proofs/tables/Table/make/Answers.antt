use Rattle.std.proofs.Common.{◌+◌, Some, ap, ◌∙◌, arith}
use Rattle.ds_tree.specs.Nodes.{FileTree, node_at, with_object}
use Rattle.ds_tree.specs.Trees.{entries_of, rooms_of, empty_node}
use Rattle.ds_tree.proofs.ObjectLists.{dir_parts}
use Rattle.ds_tree.proofs.tables.Table.make.Goals as goal

pub add_entry-requires-clause-rooms : goal.add_entry-requires-clause-rooms
add_entry-requires-clause-rooms c = (c.requires.tree.dirs c.args.dir.object _ _ (dir_parts _ c.requires.dir)).most

pub returns-clause-makes : goal.returns-clause-makes
returns-clause-makes c =
    let node = node_at c.args.self.now.tree c.args.dir.object in
    record {
      entries = entries_of node;
      rooms = rooms_of node;
      in_dir = dir_parts node c.requires.dir;
      in_range = c.lowest_free-object.ensures.in_range;
      free = c.lowest_free-object.ensures.free;
      later = omega (arith, c.birth-birth.ensures);
      made = c.put_empty.ensures.tree ∙ ap (λ (t : FileTree). with_object t c.lowest_free-object.result
          (record { birth = c.birth-birth.result + 1; node = Some (empty_node c.args.kind) })) c.in_ok-add_entry.ensures.ok;
    }

use Rattle.std.proofs.Common.{Some, None, sym, ap, ◌∙◌}
use Rattle.ds_base.specs.declared.names.Key.{Key}
use Rattle.ds_tree.specs.Nodes.{FileTree, birth_at, node_at, with_object}
use Rattle.ds_tree.specs.Trees.{entries_of, rooms_of}
use Rattle.ds_tree.proofs.ObjectLists.{dir_parts}
use Rattle.ds_tree.proofs.tables.Table.remove.Goals as goal

pub returns-clause-removes : goal.returns-clause-removes
returns-clause-removes c =
    let t = c.args.self.now.tree in
    let node = node_at t c.args.dir.object in
    let key = c.key_of-key.ensures in
    record {
      entries = entries_of node;
      rooms = rooms_of node;
      in_dir = dir_parts node c.requires.dir;
      entry = sym c.entry.ensures ∙ c.in-Some.is ∙ ap (λ (k : Key). Some k.object) (sym key);
      life = ap (λ (k : Key). birth_at t k.object) key ∙ sym (ap (λ (k : Key). k.birth) key);
      removed = c.put_free.ensures.tree ∙ ap (λ (u : FileTree). with_object u c.key_of-key.result.object
          (record { birth = c.key_of-key.result.birth; node = None })) c.remove_entry.ensures.tree;
    }

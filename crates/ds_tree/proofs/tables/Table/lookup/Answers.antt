use Rattle.std.proofs.Common.{Some, sym, ap, ◌∙◌}
use Rattle.ds_base.specs.declared.names.Key.{Key}
use Rattle.ds_tree.specs.Nodes.{birth_at, node_at}
use Rattle.ds_tree.specs.Trees.{entries_of, rooms_of}
use Rattle.ds_tree.proofs.ObjectLists.{dir_parts, kind_is}
use Rattle.ds_tree.proofs.tables.Table.lookup.Goals as goal

pub returns : goal.returns
returns c =
    let t = c.args.self.now.tree in
    let dir = node_at t c.args.dir.object in
    let key = c.key_of.ensures in
    let is = kind_is (node_at t c.in-Some.object) c.in-Some-kind.kind (sym c.kind.ensures ∙ c.in-Some-kind.is) in (
      is.0,
      record {
        entries = entries_of dir;
        rooms = rooms_of dir;
        in_dir = dir_parts dir c.requires.dir;
        entry = sym c.entry.ensures ∙ c.in-Some.is ∙ ap (λ (k : Key). Some k.object) (sym key);
        life = ap (λ (k : Key). birth_at t k.object) key ∙ sym (ap (λ (k : Key). k.birth) key);
        is_node = ap (λ (k : Key). node_at t k.object) key ∙ is.1;
      },
      is.2,
    )

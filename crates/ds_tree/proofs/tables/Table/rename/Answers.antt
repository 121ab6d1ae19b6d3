use Rattle.std.proofs.Common.{Some, sym, ap, ◌∙◌}
use Rattle.ds_base.specs.declared.names.Key.{Key}
use Rattle.std.proofs.lemmas.Bool.{eq-eqb, ne_eqb}
use Rattle.std.specs.FinMap as maps
use Rattle.ds_tree.specs.Nodes.{Dir, birth_at, node_at}
use Rattle.ds_tree.specs.Steps.{rooms_with_one_more}
use Rattle.ds_tree.specs.Trees.{TreeValue, entries_of, rooms_of}
use Rattle.ds_tree.proofs.ObjectLists.{dir_parts, dir_in_range, none_from}
use Rattle.ds_tree.proofs.Renaming.{renamed-inside, renamed-across}
use Rattle.ds_tree.proofs.tables.Table.rename.Goals as goal
use Rattle.ds_tree.proofs.tables.Table.rename.Goals.{then-dir-to+in_ok-put_entry, else-dir-to+in_ok-add_entry}

pub add_entry-requires-clause-rooms : goal.add_entry-requires-clause-rooms
add_entry-requires-clause-rooms c = (c.requires.tree.dirs c.args.to.object _ _ (dir_parts _ c.requires.to)).most

pub returns-clause-renames : goal.returns-clause-renames
returns-clause-renames c =
    let t = c.args.self.now.tree in
    let node = node_at t c.args.dir.object in
    let other = node_at t c.args.to.object in
    let key = c.key_of-key.ensures in
    record {
      entries = entries_of node;
      rooms = rooms_of node;
      entries' = entries_of other;
      rooms' = rooms_of other;
      in_dir = dir_parts node c.requires.dir;
      in_to = dir_parts other c.requires.to;
      entry = sym c.entry.ensures ∙ c.in-Some.is ∙ ap (λ (k : Key). Some k.object) (sym key);
      life = ap (λ (k : Key). birth_at t k.object) key ∙ sym (ap (λ (k : Key). k.birth) key);
      moved = elim c.if-dir-to.branch [
        | then-dir-to+in_ok-put_entry w ↦ rw (key, eq-eqb c.args.dir.object c.args.to.object w.if-dir-to.true) (
            renamed-inside t c.args.dir.object (entries_of node) (rooms_of node) c.args.name.now c.args.fresh c.in-Some.object
            (dir_in_range t c.args.dir.object c.requires.dir) (sym c.entry.ensures ∙ c.in-Some.is)
            (ap (λ n. maps.get (entries_of (node_at t n)) c.args.fresh) w.if-dir-to.true ∙ none_from _ c.requires.fresh)
            c.if-dir-to.self.tree c.remove_entry.new.self.tree
            (ap (λ (v : TreeValue). v.tree) w.self-is ∙ w.in_ok-put_entry.ensures.ok) c.remove_entry.ensures.tree)
        | else-dir-to+in_ok-add_entry w ↦ rw (key, ne_eqb c.args.dir.object c.args.to.object w.if-dir-to.false) (
            renamed-across t c.args.dir.object c.args.to.object (entries_of node) (rooms_of node) c.args.name.now
            (Dir (maps.insert (entries_of other) c.args.fresh c.in-Some.object) (rooms_with_one_more (entries_of other) (rooms_of other)))
            w.if-dir-to.false (dir_parts node c.requires.dir) c.if-dir-to.self.tree c.remove_entry.new.self.tree
            (ap (λ (v : TreeValue). v.tree) w.self-is ∙ w.in_ok-add_entry.ensures.ok) c.remove_entry.ensures.tree)
      ];
    }

-- Parts of which an entry of a file has left its directory for another one spell the tree that the call leaves.
use Rattle.std.proofs.Common.{◌≡◌, ◌≢◌, ◌+◌, ◌*◌, ◌<◌, ◌≤◌, cond, true, false, List, length, slice_get, Some, None, refl, ap, subst, ◌∙◌, arith}
use Rattle.std.specs.Prelude.{is_some}
use Rattle.std.specs.Cmp.Lexicographic.{nat_list_cmp_total}
use Rattle.std.specs.FinMap as maps
use Rattle.ds_base.specs.Names.{IsName}
use Rattle.ds_base.specs.declared.geometry.Geom.{Geom}
use Rattle.ds_base.specs.declared.geometry.Kind.TheVariants.{Sb}
use Rattle.ds_base.specs.declared.names.Key.{Key}
use Rattle.ds_base.specs.declared.names.NodeKind.TheVariants as kinds
use Rattle.ds_base.specs.declared.sectors.Sector.{Sector}
use Rattle.ds_dir.specs.declared.sub_block.Entry.{Entry}
use Rattle.ds_fd.specs.Body.{IsBody, most_count}
use Rattle.ds_fd.specs.declared.body.Body.{Body}
use Rattle.ds_layout.specs.Places.{blocks_at}
use Rattle.ds_tree.specs.Counts.{free_of}
use Rattle.ds_tree.specs.Nodes.{Entries, Dir, Object, node_at, with_node}
use Rattle.ds_tree.specs.Steps.{is_dir, is_full, refusal, rooms_with_one_more, Renames}
use Rattle.ds_tree.specs.WellFormed.{IsTree}
use Rattle.ds_tree.specs.declared.calls.CallOf.TheVariants.{Rename}
use Rattle.ds_tree.specs.declared.calls.TreeReply.TheVariants.{Moved}
use Rattle.ds_image_parts.specs.Objects.{object_of, node_by, entries_of, tree_of}
use Rattle.ds_image_parts.specs.Parts.{Parts}
use Rattle.ds_image_parts.specs.Readings.{ReadsParts}
use Rattle.ds_image.specs.Sound.{IsSound, IsNamedRight}
use Rattle.ds_image.proofs.FileTrees.DirNodes.{dir-rules}
use Rattle.ds_image.proofs.FileTrees.TreeParts.{object-is}
use Rattle.ds_plan_laws_new.specs.Entering.{subs_in}
use Rattle.ds_plan_laws_new.specs.Making.{Leaves}
use Rattle.ds_plan_laws_new.proofs.EnteredTrees.{dir-object}
use Rattle.ds_plan_laws_gone.proofs.Kept.{kept-sound}
use Rattle.ds_plan_laws_gone.proofs.Moved.{MovesParts, moved-entries, entry-right, found-entry, entered-names, tree-moved}
use Rattle.ds_plan_laws_gone.proofs.Renaming.{rename-does, rename-is_tree, across-granted, across-renames}
use Rattle.ds_plan_laws_gone.proofs.StandsRenamed.{entry-life, dir-node_of_key}

-- what an entry of a file names is no directory
pub file-is_no_dir : (p : Parts) (e : Entry) → IsNamedRight p e → e.kind ≡ kinds.File → is_dir (node_at (tree_of p) e.key.object) ≡ false
file-is_no_dir p e named file =
    ap (λ (x : Object). is_dir x.node) (object-is p e.key.object ∙ ap (object_of p) named.there)
    ∙ ap (λ kind. is_dir (node_by p named.body kind)) (named.kind ∙ ap Some file)

module _ (g : Geom) (image' : List Sector) (p q : Parts) (reads' : ReadsParts g (slice_get image') q) (sound : IsSound p)
    (key to : Key) (dir to_dir to_dir' : Body) (e fresh : Entry) (moves : MovesParts p q key.object to.object dir to_dir to_dir' e fresh) (is_body' : IsBody to_dir') where
  abbrev pub to_entries : Entries
  to_entries = entries_of p (subs_in to_dir)

  few-subs : to_dir'.count ≤ 96
  few-subs = subst (λ k. to_dir'.count ≤ most_count k) moves.keeps.dir_kind is_body'.ranges.count_to

  -- the directory has a room for the entry
  pub have-room : maps.len to_entries + 1 ≤ 4 * to_dir'.count
  have-room =
      let new-name : maps.contains_key to_entries fresh.name ≡ false = ap is_some moves.absent in
      let put = maps.len-insert nat_list_cmp_total to_entries fresh.name e.key.object in
      omega (
        arith,
        (dir-rules g (slice_get image') q to_dir' reads' few-subs).have_rooms,
        ap maps.len (entered-names p q key.object to.object dir to_dir to_dir' e fresh sound moves),
        put ∙ ap (λ b. cond b (maps.len to_entries) (maps.len to_entries + 1)) new-name,
      )

  few : maps.len to_entries < 384
  few = omega (arith, have-room, few-subs)

  pub moved-sound : IsSound q
  moved-sound = kept-sound p q to.object to_dir to_dir' moves.keeps sound (moved-entries p q key.object to.object dir to_dir to_dir' e fresh sound moves)

  module _ (life : dir.birth ≡ key.birth) (to_life : to_dir.birth ≡ to.birth) (named : IsName e.name) (file : e.kind ≡ kinds.File) (tree : IsTree g (tree_of p))
      (rooms : 4 * to_dir'.count ≡ rooms_with_one_more to_entries (4 * to_dir.count)) (room : is_full to_entries (4 * to_dir.count) ≡ true → free_of g (tree_of p) Sb ≢ 0) where
    abbrev entries : Entries
    entries = entries_of p (subs_in dir)

    named-right : IsNamedRight p e
    named-right = entry-right p q key.object to.object dir to_dir to_dir' e fresh sound moves

    granted : refusal g (tree_of p) (Rename key e.name to fresh.name) ≡ None
    granted =
        across-granted g (tree_of p) key to e.name fresh.name e.key.object entries (4 * dir.count) to_entries (4 * to_dir.count) moves.apart
        (dir-node_of_key p key dir moves.in_dir.there moves.in_dir.is_dir life)
        (dir-node_of_key p to to_dir moves.keeps.in_dir.there moves.keeps.in_dir.is_dir to_life)
        (found-entry p q key.object to.object dir to_dir to_dir' e fresh sound moves) (file-is_no_dir p e named-right file) moves.absent few room

    done : Renames (tree_of p) key e.name to fresh.name e.key (tree_of q)
    done =
        across-renames g (tree_of p) key to e.name fresh.name e.key.object entries (4 * dir.count) to_entries (4 * to_dir.count) moves.apart
        (dir-node_of_key p key dir moves.in_dir.there moves.in_dir.is_dir life)
        (dir-node_of_key p to to_dir moves.keeps.in_dir.there moves.keeps.in_dir.is_dir to_life)
        (found-entry p q key.object to.object dir to_dir to_dir' e fresh sound moves) (file-is_no_dir p e named-right file) moves.absent few room
        e.key (tree_of q) refl (entry-life p e named-right)
        (ap (λ (x : Object). x.node) (dir-object p key.object dir moves.in_dir.there moves.in_dir.is_dir))
        (ap (λ (x : Object). x.node) (dir-object p to.object to_dir moves.keeps.in_dir.there moves.keeps.in_dir.is_dir))
        (tree-moved p q key.object to.object dir to_dir to_dir' e fresh sound moves
        ∙ ap (λ n. with_node (with_node (tree_of p) key.object (Dir (maps.remove entries e.name) (4 * dir.count))) to.object (Dir (maps.insert to_entries fresh.name e.key.object) n)) rooms)

    -- so the image stands for what the call leaves
    pub leaves-moved : blocks_at g ≤ length image' → Leaves g (tree_of p) (Rename key e.name to fresh.name) (Moved e.key) image'
    leaves-moved whole = record {
      u = tree_of q;
      stands = record {
        parts = q;
        whole = whole;
        reads = reads';
        sound = moved-sound;
        tree = refl;
        is_tree = rename-is_tree g (tree_of p) key to e.name fresh.name e.key (tree_of q) tree named moves.renamed.named granted done;
      };
      does = rename-does g (tree_of p) key to e.name fresh.name e.key (tree_of q) granted done;
    }

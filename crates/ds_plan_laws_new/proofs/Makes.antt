-- Parts of which a directory has an entry more, and the object that it names is new, spell the tree that the call makes.
use Rattle.std.proofs.Common.{◌≡◌, ◌≢◌, ℕ, ◌+◌, ◌*◌, ◌<◌, ◌≤◌, cond, true, false, List, length, map, slice_get, Some, None, refl, ap, subst, ◌∙◌, arith}
use Rattle.std.specs.Prelude.{is_some}
use Rattle.std.specs.Cmp.Lexicographic.{nat_list_cmp_total}
use Rattle.std.specs.FinMap as maps
use Rattle.std.proofs.lemmas.List.{get_or-map, length-map}
use Rattle.std.proofs.lemmas.Option.{slice_get-get_or}
use Rattle.ds_base.specs.Names.{IsName}
use Rattle.ds_base.specs.declared.geometry.Geom.{Geom}
use Rattle.ds_base.specs.declared.geometry.Kind.TheVariants.{Fd, Sb}
use Rattle.ds_base.specs.declared.names.Key.{Key}
use Rattle.ds_base.specs.declared.sectors.Sector.{Sector}
use Rattle.ds_dir.specs.declared.sub_block.Entry.{Entry}
use Rattle.ds_fd.specs.Body.{IsBody, most_count}
use Rattle.ds_fd.specs.declared.body.Body.{Body}
use Rattle.ds_layout.specs.Places.{blocks_at}
use Rattle.ds_tree.specs.Counts.{free_of}
use Rattle.ds_tree.specs.Nodes.{Entries, Dir, Object, node_of_key}
use Rattle.ds_tree.specs.Steps.{is_full, rooms_with_one_more, Makes}
use Rattle.ds_tree.specs.Trees.{empty_node}
use Rattle.ds_tree.specs.WellFormed.{IsTree}
use Rattle.ds_tree.specs.declared.calls.TreeReply.TheVariants.{Made}
use Rattle.ds_image_parts.specs.Objects.{entries_of, is_used, tree_of}
use Rattle.ds_image_parts.specs.Parts.{Parts, bits_in}
use Rattle.ds_image_parts.specs.Readings.{ReadsParts}
use Rattle.ds_image.specs.Sound.{IsSound}
use Rattle.ds_image.proofs.FileTrees.DirNodes.{dir-rules}
use Rattle.ds_plan_laws_new.specs.Entering.{subs_in, make_call}
use Rattle.ds_plan_laws_new.specs.Making.{Leaves}
use Rattle.ds_plan_laws_new.proofs.Entered.{EntersBodies, EntersParts, o-within, entered-sound}
use Rattle.ds_plan_laws_new.proofs.EnteredTrees.{dir-object, put-entries, entered-makes}
use Rattle.ds_plan_laws_new.proofs.FreeItems.{free-some}
use Rattle.ds_plan_laws_new.proofs.Granting.{key-node, make-does, make-is_tree}

module _ (g : Geom) (image image' : List Sector) (p q : Parts) (reads : ReadsParts g (slice_get image) p) (reads' : ReadsParts g (slice_get image') q) (sound : IsSound p)
    (key : Key) (o : ℕ) (dir dir' new : Body) (e : Entry) (en : EntersParts p q key.object o dir dir' new e) (is_body' : IsBody dir') where
  in-bodies : EntersBodies p q key.object o dir dir' new e
  in-bodies = en.enters

  abbrev pub entries : Entries
  entries = entries_of p (subs_in dir)

  few-subs : dir'.count ≤ 96
  few-subs = subst (λ k. dir'.count ≤ most_count k) in-bodies.dir_kind is_body'.ranges.count_to

  -- the directory has a room for the entry
  pub have-room : maps.len entries + 1 ≤ 4 * dir'.count
  have-room =
      let new-name : maps.contains_key entries e.name ≡ false = ap is_some in-bodies.lacks.absent in
      let put = maps.len-insert nat_list_cmp_total entries e.name o in
      omega (
        arith,
        (dir-rules g (slice_get image') q dir' reads' few-subs).have_rooms,
        ap maps.len (put-entries p q key.object o dir dir' new e en),
        put ∙ ap (λ b. cond b (maps.len entries) (maps.len entries + 1)) new-name,
      )

  few : maps.len entries < 384
  few = omega (arith, have-room, few-subs)

  object-clear : slice_get (bits_in p.fd_maps) o ≡ Some false
  object-clear =
      let within = o-within p q key.object o dir dir' new e in-bodies in
      ap (λ bits. slice_get bits o) sound.used
      ∙ slice_get-get_or (map is_used p.bodies) o false (omega (arith, within, length-map p.bodies is_used))
      ∙ ap Some (get_or-map is_used p.bodies o None false within ∙ ap is_used in-bodies.begins.there ∙ ap is_some in-bodies.begins.unused)

  object-free : free_of g (tree_of p) Fd ≢ 0
  object-free = free-some g (slice_get image) p reads sound Fd o object-clear

  module _ (life : dir.birth ≡ key.birth) (named : IsName e.name) (tree : IsTree g (tree_of p))
      (rooms : 4 * dir'.count ≡ rooms_with_one_more entries (4 * dir.count)) (room : is_full entries (4 * dir.count) ≡ true → free_of g (tree_of p) Sb ≢ 0) where
    makes : Makes g (tree_of p) key e.name (empty_node e.kind) e.key (tree_of q)
    makes = entered-makes p q key.object o dir dir' new e en g key refl reads.bodies.len rooms

    dir-is : node_of_key (tree_of p) key ≡ Some (Dir entries (4 * dir.count))
    dir-is =
        let object = dir-object p key.object dir in-bodies.lacks.there in-bodies.lacks.is_dir in
        key-node (tree_of p) key dir.birth (ap (λ (x : Object). x.birth) object) life ∙ ap (λ (x : Object). x.node) object

    -- so the image stands for what the call makes
    pub leaves-made : blocks_at g ≤ length image' → Leaves g (tree_of p) (make_call e.kind key e.name) (Made e.key) image'
    leaves-made whole = record {
      u = tree_of q;
      stands = record {
        parts = q;
        whole = whole;
        reads = reads';
        sound = entered-sound p q key.object o dir dir' new e sound en;
        tree = refl;
        is_tree = make-is_tree g (tree_of p) key e.name entries (4 * dir.count) dir-is in-bodies.lacks.absent few object-free room tree named e.kind e.key (tree_of q) makes;
      };
      does = make-does g (tree_of p) key e.name entries (4 * dir.count) dir-is in-bodies.lacks.absent few object-free room e.kind e.key (tree_of q) makes;
    }

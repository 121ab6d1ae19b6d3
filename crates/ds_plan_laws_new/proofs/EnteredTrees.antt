-- The tree of parts of which a directory has an entry more, and the object that it names is new.
use Rattle.std.proofs.Common.{◌≡◌, ℕ, ◌*◌, length, map, Some, None, sym, ap, ◌∙◌, length-set, get_or-set_same, get_or-set_other, arith}
use Rattle.std.specs.FinMap as maps
use Rattle.std.proofs.lemmas.List.{ext_get_or, get_or-map, length-map}
use Rattle.ds_base.specs.declared.geometry.Geom.{Geom}
use Rattle.ds_base.specs.declared.geometry.Kind.TheVariants.{Fd}
use Rattle.ds_base.specs.declared.names.Key.{Key}
use Rattle.ds_base.specs.declared.names.NodeKind.TheVariants as kinds
use Rattle.ds_base.specs.Geometry.{items_of}
use Rattle.ds_dir.specs.declared.sub_block.Entry.{Entry}
use Rattle.ds_fd.specs.declared.body.Body.{Body}
use Rattle.ds_tree.specs.Nodes.{Entries, Node, Dir, Object, FileTree, unborn, object_at, node_at, birth_at, with_object, with_node}
use Rattle.ds_tree.specs.Steps.{Makes, rooms_with_one_more}
use Rattle.ds_tree.specs.Trees.{empty_node}
use Rattle.ds_image_parts.specs.Objects.{node_by, object_of, tree_of, entries_of, used_rooms}
use Rattle.ds_image_parts.specs.Parts.{Parts, part_at}
use Rattle.ds_image.proofs.FileTrees.TreeParts.{object-is, objects-are}
use Rattle.ds_plan_laws_new.specs.Entering.{subs_in}
use Rattle.ds_plan_laws_new.proofs.Entered.{EntersBodies, EntersParts, is_new, is_dir, is_other, where-is, apart, d-within, o-within, count-same}
use Rattle.ds_plan_laws_new.proofs.Names.{by_name-put}
use Rattle.ds_plan_laws_new.proofs.NewBodies.{empty-node, object-same}

-- the object of a directory with this body
pub dir-object : (p : Parts) (d : ℕ) (dir : Body) → part_at p.bodies d ≡ Some dir → dir.kind ≡ Some kinds.Dir
    → object_at (tree_of p) d ≡ record { birth = dir.birth; node = Some (Dir (entries_of p (subs_in dir)) (4 * dir.count)) }
dir-object p d dir there kind_is =
    object-is p d ∙ ap (object_of p) there ∙ ap (λ kind. record { birth = dir.birth; node = node_by p dir kind }) kind_is

-- the object of a descriptor that is not in use
pub unused-object : (p : Parts) (o : ℕ) (b : Body) → part_at p.bodies o ≡ Some b → b.kind ≡ None
    → object_at (tree_of p) o ≡ record { birth = b.birth; node = None }
unused-object p o b there unused =
    object-is p o ∙ ap (object_of p) there ∙ ap (λ kind. record { birth = b.birth; node = node_by p b kind }) unused

module _ (p q : Parts) (d o : ℕ) (dir dir' new : Body) (e : Entry) (en : EntersParts p q d o dir dir' new e) where
  in-bodies : EntersBodies p q d o dir dir' new e
  in-bodies = en.enters

  abbrev pub entries : Entries
  entries = entries_of p (subs_in dir)

  abbrev t : FileTree
  t = tree_of p

  abbrev pub dir-node : Node
  dir-node = Dir (maps.insert entries e.name o) (4 * dir'.count)

  abbrev pub new-object : Object
  new-object = record { birth = new.birth; node = Some (empty_node e.kind) }

  abbrev pub entered-tree : FileTree
  entered-tree = with_object (with_node t d dir-node) o new-object

  pub put-entries : entries_of q (subs_in dir') ≡ maps.insert entries e.name o
  put-entries =
      by_name-put e (used_rooms p (subs_in dir)) (used_rooms q (subs_in dir')) en.put in-bodies.lacks.absent
      ∙ ap (maps.insert entries e.name) in-bodies.begins.named_object

  dir-birth : birth_at t d ≡ dir.birth
  dir-birth = ap (λ (x : Object). x.birth) (dir-object p d dir in-bodies.lacks.there in-bodies.lacks.is_dir)

  dir-after : object_of q (Some dir') ≡ record { birth = birth_at t d; node = Some dir-node }
  dir-after =
      ap (λ kind. record { birth = dir'.birth; node = node_by q dir' kind }) in-bodies.dir_kind
      ∙ (λ i. record { birth = (in-bodies.dir_birth ∙ sym dir-birth) i; node = Some (Dir (put-entries i) (4 * dir'.count)) })

  new-after : object_of q (Some new) ≡ new-object
  new-after =
      ap (λ kind. record { birth = new.birth; node = node_by q new kind }) in-bodies.begins.kind
      ∙ ap (λ node. record { birth = new.birth; node = node }) (empty-node q new e.kind in-bodies.begins.empty)

  count-objects : length t.objects ≡ length p.bodies
  count-objects = ap length (objects-are p) ∙ length-map p.bodies (object_of p)

  each : (k : ℕ) → object_of q (part_at q.bodies k) ≡ object_at entered-tree k
  each k = elim (where-is p q d o dir dir' new e in-bodies k) as (λ _. object_of q (part_at q.bodies k) ≡ object_at entered-tree k) [
    | is_new here at ↦
        ap (object_of q) at ∙ new-after
        ∙ sym (ap (object_at entered-tree) here ∙ get_or-set_same (with_node t d dir-node).objects o new-object unborn
        (omega (arith, count-objects, o-within p q d o dir dir' new e in-bodies, length-set t.objects d (record { birth = birth_at t d; node = Some dir-node }))))
    | is_dir here at ↦
        ap (object_of q) at ∙ dir-after
        ∙ sym (ap (object_at entered-tree) here
        ∙ get_or-set_other (with_node t d dir-node).objects o d new-object unborn (λ same. apart p q d o dir dir' new e in-bodies (sym same))
        ∙ get_or-set_same t.objects d (record { birth = birth_at t d; node = Some dir-node }) unborn (omega (arith, count-objects, d-within p q d o dir dir' new e in-bodies)))
    | is_other past other at ↦
        ap (object_of q) at ∙ object-same p q (part_at p.bodies k) en.ptrs (en.elsewhere k other)
        ∙ sym (get_or-set_other (with_node t d dir-node).objects o k new-object unborn past
        ∙ get_or-set_other t.objects d k (record { birth = birth_at t d; node = Some dir-node }) unborn other
        ∙ object-is p k)
  ]

  objects-after : (tree_of q).objects ≡ entered-tree.objects
  objects-after =
      objects-are q
      ∙ ext_get_or unborn (map (object_of q) q.bodies) entered-tree.objects
      (length-map q.bodies (object_of q) ∙ count-same p q d o dir dir' new e in-bodies ∙ sym count-objects
      ∙ sym (length-set (with_node t d dir-node).objects o new-object ∙ length-set t.objects d (record { birth = birth_at t d; node = Some dir-node })))
      (λ k l. get_or-map (object_of q) q.bodies k None unborn (omega (arith, l, length-map q.bodies (object_of q))) ∙ each k)

  -- just that entry and that object are new
  pub tree-entered : tree_of q ≡ entered-tree
  tree-entered i = record { objects = objects-after i }

  -- this is what is made where the directory has room
  pub entered-makes : (g : Geom) (key : Key) → key.object ≡ d → length p.bodies ≡ items_of g Fd → 4 * dir'.count ≡ rooms_with_one_more entries (4 * dir.count)
      → Makes g t key e.name (empty_node e.kind) e.key (tree_of q)
  entered-makes g key is count rooms = record {
    entries = entries;
    rooms = 4 * dir.count;
    in_dir = ap (node_at t) is ∙ ap (λ (x : Object). x.node) (dir-object p d dir in-bodies.lacks.there in-bodies.lacks.is_dir);
    in_range = omega (arith, in-bodies.begins.named_object, o-within p q d o dir dir' new e in-bodies, count);
    free = ap (node_at t) in-bodies.begins.named_object ∙ ap (λ (x : Object). x.node) old;
    later = omega (arith, ap (birth_at t) in-bodies.begins.named_object ∙ ap (λ (x : Object). x.birth) old, in-bodies.begins.named_birth, in-bodies.begins.birth);
    made = tree-entered ∙ (λ i. with_object
        (with_node t (sym is i) (Dir (maps.insert entries e.name (sym in-bodies.begins.named_object i)) (rooms i)))
        (sym in-bodies.begins.named_object i) (record { birth = sym in-bodies.begins.named_birth i; node = Some (empty_node e.kind) }));
  }
    where
      old : object_at t o ≡ record { birth = in-bodies.begins.before.birth; node = None }
      old = unused-object p o in-bodies.begins.before in-bodies.begins.there in-bodies.begins.unused

-- The tree of parts of which a directory has an entry less, and the object that it named is gone.
use Rattle.std.proofs.Common.{◌≡◌, ℕ, ◌*◌, length, map, Some, None, sym, ap, ◌∙◌, length-set, get_or-set_same, get_or-set_other, inl, inr, arith}
use Rattle.std.specs.FinMap as maps
use Rattle.std.proofs.lemmas.Bool.{cases_eq}
use Rattle.std.proofs.lemmas.List.{ext_get_or, get_or-map, length-map}
use Rattle.ds_base.specs.declared.geometry.Geom.{Geom}
use Rattle.ds_base.specs.declared.names.Key.{Key}
use Rattle.ds_dir.specs.declared.sub_block.Entry.{Entry}
use Rattle.ds_fd.specs.declared.body.Body.{Body}
use Rattle.ds_tree.specs.Nodes.{Entries, Node, Dir, Object, FileTree, unborn, object_at, node_at, birth_at, with_object, with_node}
use Rattle.ds_tree.specs.Steps.{Removes}
use Rattle.ds_image_parts.specs.Objects.{node_by, object_of, tree_of, entries_of, used_rooms}
use Rattle.ds_image_parts.specs.Parts.{Parts, part_at}
use Rattle.ds_image.specs.Sound.{IsSound}
use Rattle.ds_image.proofs.FileTrees.EntryNames.{find-at, get-entries}
use Rattle.ds_image.proofs.FileTrees.TreeParts.{object-is, objects-are}
use Rattle.ds_plan_laws_new.specs.Entering.{subs_in}
use Rattle.ds_plan_laws_new.proofs.EnteredTrees.{dir-object}
use Rattle.ds_plan_laws_new.proofs.Names.{by_name-taken}
use Rattle.ds_plan_laws_new.proofs.NewBodies.{object-same}
use Rattle.ds_plan_laws_gone.proofs.Gone.{GoesFrom, put-here, is_gone, is_other, where-is, apart, o-within, d-within, count-same, dir-apart, old-birth, old-kind}

module _ (g : Geom) (p q : Parts) (d : ℕ) (dir : Body) (e : Entry) (old new : Body) (sound : IsSound p) (goes : GoesFrom p q d dir e old new) where
  abbrev o : ℕ
  o = e.key.object

  abbrev pub entries : Entries
  entries = entries_of p (subs_in dir)

  abbrev t : FileTree
  t = tree_of p

  abbrev pub dir-node : Node
  dir-node = Dir (maps.remove entries e.name) (4 * dir.count)

  abbrev pub gone-object : Object
  gone-object = record { birth = e.key.birth; node = None }

  abbrev gone-tree : FileTree
  gone-tree = with_object (with_node t d dir-node) o gone-object

  taken-entries : entries_of q (subs_in dir) ≡ maps.remove entries e.name
  taken-entries = by_name-taken e (used_rooms q (subs_in dir)) (used_rooms p (subs_in dir)) goes.put (dir-apart g p q d dir e old new sound goes)

  -- the entry of the name is the object
  pub found-entry : maps.get entries e.name ≡ Some o
  found-entry =
      let there = put-here e (used_rooms q (subs_in dir)) (used_rooms p (subs_in dir)) goes.put in
      get-entries (used_rooms p (subs_in dir)) e.name
      ∙ find-at (used_rooms p (subs_in dir)) (dir-apart g p q d dir e old new sound goes) there.0 e there.1

  dir-birth : birth_at t d ≡ dir.birth
  dir-birth = ap (λ (x : Object). x.birth) (dir-object p d dir goes.in_dir.there goes.in_dir.is_dir)

  dir-after : object_of q (Some dir) ≡ record { birth = birth_at t d; node = Some dir-node }
  dir-after =
      ap (λ kind. record { birth = dir.birth; node = node_by q dir kind }) goes.in_dir.is_dir
      ∙ (λ i. record { birth = sym dir-birth i; node = Some (Dir (taken-entries i) (4 * dir.count)) })

  gone-after : object_of q (Some new) ≡ gone-object
  gone-after =
      ap (λ kind. record { birth = new.birth; node = node_by q new kind }) goes.ends.unused
      ∙ ap (λ b. record { birth = b; node = None }) (goes.ends.birth ∙ old-birth g p q d dir e old new sound goes)

  -- the object as it was
  pub old-object : object_at t o ≡ record { birth = e.key.birth; node = node_by p old (Some e.kind) }
  old-object =
      object-is p o ∙ ap (object_of p) goes.ends.there
      ∙ (λ i. record { birth = old-birth g p q d dir e old new sound goes i; node = node_by p old (old-kind g p q d dir e old new sound goes i) })

  count-objects : length t.objects ≡ length p.bodies
  count-objects = ap length (objects-are p) ∙ length-map p.bodies (object_of p)

  each : (k : ℕ) → object_of q (part_at q.bodies k) ≡ object_at gone-tree k
  each k = elim (where-is g p q d dir e old new sound goes k) as (λ _. object_of q (part_at q.bodies k) ≡ object_at gone-tree k) [
    | is_gone here at ↦
        ap (object_of q) at ∙ gone-after
        ∙ sym (ap (object_at gone-tree) here ∙ get_or-set_same (with_node t d dir-node).objects o gone-object unborn
        (omega (arith, count-objects, o-within g p q d dir e old new sound goes, length-set t.objects d (record { birth = birth_at t d; node = Some dir-node }))))
    | is_other past at ↦ ap (object_of q) at ∙ elim (cases_eq k d) [
      | inl here ↦
          ap (λ x. object_of q (part_at p.bodies x)) here ∙ ap (object_of q) goes.in_dir.there ∙ dir-after
          ∙ sym (ap (object_at gone-tree) here
          ∙ get_or-set_other (with_node t d dir-node).objects o d gone-object unborn (apart g p q d dir e old new sound goes)
          ∙ get_or-set_same t.objects d (record { birth = birth_at t d; node = Some dir-node }) unborn (omega (arith, count-objects, d-within g p q d dir e old new sound goes)))
      | inr other ↦
          object-same p q (part_at p.bodies k) goes.ptrs (goes.elsewhere k other)
          ∙ sym (get_or-set_other (with_node t d dir-node).objects o k gone-object unborn past
          ∙ get_or-set_other t.objects d k (record { birth = birth_at t d; node = Some dir-node }) unborn other
          ∙ object-is p k)
    ]
  ]

  objects-after : (tree_of q).objects ≡ gone-tree.objects
  objects-after =
      objects-are q
      ∙ ext_get_or unborn (map (object_of q) q.bodies) gone-tree.objects
      (length-map q.bodies (object_of q) ∙ count-same g p q d dir e old new sound goes ∙ sym count-objects
      ∙ sym (length-set (with_node t d dir-node).objects o gone-object ∙ length-set t.objects d (record { birth = birth_at t d; node = Some dir-node })))
      (λ k l. get_or-map (object_of q) q.bodies k None unborn (omega (arith, l, length-map q.bodies (object_of q))) ∙ each k)

  -- just that entry and that object are gone
  pub tree-gone : tree_of q ≡ gone-tree
  tree-gone i = record { objects = objects-after i }

  -- which is what is removed
  pub gone-removes : (key : Key) → key.object ≡ d → Removes t key e.name e.key (tree_of q)
  gone-removes key is = record {
    entries = entries;
    rooms = 4 * dir.count;
    in_dir = ap (node_at t) is ∙ ap (λ (x : Object). x.node) (dir-object p d dir goes.in_dir.there goes.in_dir.is_dir);
    entry = found-entry;
    life = ap (λ (x : Object). x.birth) old-object;
    removed = tree-gone ∙ ap (λ k. with_object (with_node t k dir-node) o gone-object) (sym is);
  }

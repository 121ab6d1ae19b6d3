-- The tree of parts of which a file has another size.
use Rattle.std.proofs.Common.{◌≡◌, ℕ, ◌*◌, inl, inr, List, length, map, Option, Some, None, refl, sym, ap, ◌∙◌, length-set, get_or-set_same, get_or-set_other, arith}
use Rattle.std.proofs.lemmas.Bool.{cases_eq}
use Rattle.std.proofs.lemmas.List.{ext_get_or, get_or-map, length-map}
use Rattle.ds_base.specs.declared.names.NodeKind.{NodeKind}
use Rattle.ds_base.specs.declared.names.NodeKind.TheVariants as kinds
use Rattle.ds_fd.specs.declared.body.Body.{Body}
use Rattle.ds_tree.specs.Nodes.{Dir, File, Object, FileTree, unborn, object_at, birth_at, with_node}
use Rattle.ds_image_parts.specs.Objects.{subs_by, subs_of, blocks_by, blocks_of, node_by, object_of, tree_of, used_rooms}
use Rattle.ds_image_parts.specs.Parts.{Parts, part_at}
use Rattle.ds_image.proofs.FileTrees.TreeParts.{object-is, objects-are}
use Rattle.ds_plan_laws_new.proofs.Names.{by_name}
use Rattle.ds_plan_laws_size.specs.Pages.{blocks_in}
use Rattle.ds_plan_laws_size.specs.Resizing.{ResizesParts, blocks_after}
use Rattle.ds_plan_laws_size.proofs.Resized.{o-within, at-file, at-other, blocks-after, other-ptrs, rooms-same}
use Rattle.ds_plan_laws_size.proofs.SamePointers.{blocks-stay}

-- the object of a file with this body
pub file-object : (p : Parts) (o : ℕ) (b : Body) → part_at p.bodies o ≡ Some b → b.kind ≡ Some kinds.File
    → object_at (tree_of p) o ≡ record { birth = b.birth; node = Some (File (blocks_in p b)) }
file-object p o b there file =
    object-is p o ∙ ap (object_of p) there ∙ ap (λ kind. record { birth = b.birth; node = node_by p b kind }) file

-- what an object is stays where its blocks and its entries do
object-stays : (p q : Parts) (body : Option Body) → used_rooms q (subs_of body) ≡ used_rooms p (subs_of body) → blocks_of q body ≡ blocks_of p body
    → object_of q body ≡ object_of p body
object-stays p q None rooms blocks = refl
object-stays p q (Some b) rooms blocks = λ i. record { birth = b.birth; node = by b.kind rooms blocks i }
  where
    by : (kind : Option NodeKind) → used_rooms q (subs_by b kind) ≡ used_rooms p (subs_by b kind) → blocks_by q b kind ≡ blocks_by p b kind
        → node_by q b kind ≡ node_by p b kind
    by None rooms blocks = refl
    by (Some kinds.Dir) rooms blocks = ap (λ es. Some (Dir (by_name es) (4 * b.count))) rooms
    by (Some kinds.File) rooms blocks = ap (λ bs. Some (File bs)) blocks

module _ (p q : Parts) (o : ℕ) (b b' : Body) (size : ℕ) (added pointers : List ℕ) (re : ResizesParts p q o b b' size added pointers) where
  abbrev t : FileTree
  t = tree_of p

  abbrev after : Object
  after = record { birth = birth_at t o; node = Some (File (blocks_after p b size added)) }

  file-birth : birth_at t o ≡ b.birth
  file-birth = ap (λ (x : Object). x.birth) (file-object p o b re.body.there re.body.file)

  file-after : object_of q (Some b') ≡ after
  file-after =
      ap (λ kind. record { birth = b'.birth; node = node_by q b' kind }) re.body.kind
      ∙ (λ i. record { birth = (re.body.birth ∙ sym file-birth) i; node = Some (File (blocks-after p q o b b' size added pointers re i)) })

  count-objects : length t.objects ≡ length p.bodies
  count-objects = ap length (objects-are p) ∙ length-map p.bodies (object_of p)

  each : (k : ℕ) → object_of q (part_at q.bodies k) ≡ object_at (with_node t o (File (blocks_after p b size added))) k
  each k = elim (cases_eq k o) as (λ _. object_of q (part_at q.bodies k) ≡ object_at (with_node t o (File (blocks_after p b size added))) k) [
    | inl here ↦
        ap (λ n. object_of q (part_at q.bodies n)) here ∙ ap (object_of q) (at-file p q o b b' size added pointers re) ∙ file-after
        ∙ sym (ap (object_at (with_node t o (File (blocks_after p b size added)))) here
        ∙ get_or-set_same t.objects o after unborn (omega (arith, count-objects, o-within p q o b b' size added pointers re)))
    | inr other ↦
        ap (object_of q) (at-other p q o b b' size added pointers re k other)
        ∙ object-stays p q (part_at p.bodies k) (rooms-same p q o b b' size added pointers re (subs_of (part_at p.bodies k)))
        (blocks-stay p q (part_at p.bodies k) (other-ptrs p q o b b' size added pointers re k other))
        ∙ sym (get_or-set_other t.objects o k after unborn other ∙ object-is p k)
  ]

  -- just the file has other blocks
  pub tree-resized : tree_of q ≡ with_node t o (File (blocks_after p b size added))
  tree-resized i = record { objects = objects-after i }
    where
      objects-after : (tree_of q).objects ≡ (with_node t o (File (blocks_after p b size added))).objects
      objects-after =
          objects-are q
          ∙ ext_get_or unborn (map (object_of q) q.bodies) (with_node t o (File (blocks_after p b size added))).objects
          (length-map q.bodies (object_of q) ∙ ap length re.bodies ∙ length-set p.bodies o (Some b') ∙ sym count-objects
          ∙ sym (length-set t.objects o after))
          (λ k l. get_or-map (object_of q) q.bodies k None unborn (omega (arith, l, length-map q.bodies (object_of q))) ∙ each k)

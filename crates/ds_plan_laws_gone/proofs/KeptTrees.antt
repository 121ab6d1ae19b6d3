-- The tree of parts in which entries move, object by object.
use Rattle.std.proofs.Common.{◌≡◌, ◌≢◌, ℕ, ◌*◌, length, Some, sym, ap, ◌∙◌}
use Rattle.std.proofs.lemmas.List.{ext_get_or, length-map}
use Rattle.ds_fd.specs.declared.body.Body.{Body}
use Rattle.ds_tree.specs.Nodes.{Dir, FileTree, unborn, object_at}
use Rattle.ds_image_parts.specs.Objects.{node_by, object_of, tree_of, entries_of, subs_of, used_rooms}
use Rattle.ds_image_parts.specs.Parts.{Parts, part_at}
use Rattle.ds_image.proofs.FileTrees.TreeParts.{object-is, objects-are}
use Rattle.ds_plan_laws_new.specs.Entering.{subs_in}
use Rattle.ds_plan_laws_new.proofs.NewBodies.{object-same}
use Rattle.ds_plan_laws_gone.proofs.Kept.{KeepsObjects, at-dir, at-other, count-same}

-- trees of the same objects are the same
pub same-trees : (a b : FileTree) → length a.objects ≡ length b.objects → ((k : ℕ) → object_at a k ≡ object_at b k) → a ≡ b
same-trees a b count each =
    let objects : a.objects ≡ b.objects = ext_get_or unborn a.objects b.objects count (λ k l. each k) in
    λ i. record { objects = objects i }

pub count-objects : (p : Parts) → length (tree_of p).objects ≡ length p.bodies
count-objects p = ap length (objects-are p) ∙ length-map p.bodies (object_of p)

module _ (p q : Parts) (d : ℕ) (dir dir' : Body) (keeps : KeepsObjects p q d dir dir') where
  pub count-kept : length (tree_of q).objects ≡ length (tree_of p).objects
  count-kept = count-objects q ∙ count-same p q d dir dir' keeps ∙ sym (count-objects p)

  -- the directory, in the life that it had
  pub dir-kept : object_at (tree_of q) d ≡ record { birth = dir.birth; node = Some (Dir (entries_of q (subs_in dir')) (4 * dir'.count)) }
  dir-kept =
      object-is q d ∙ ap (object_of q) (at-dir p q d dir dir' keeps)
      ∙ (λ i. record { birth = keeps.dir_birth i; node = node_by q dir' (keeps.dir_kind i) })

  -- an object whose rooms are used as before is as before
  pub other-kept : (k : ℕ) → k ≢ d → used_rooms q (subs_of (part_at p.bodies k)) ≡ used_rooms p (subs_of (part_at p.bodies k))
      → object_at (tree_of q) k ≡ object_at (tree_of p) k
  other-kept k other rooms =
      object-is q k ∙ ap (object_of q) (at-other p q d dir dir' keeps k other) ∙ object-same p q (part_at p.bodies k) keeps.ptrs rooms ∙ sym (object-is p k)

-- Parts that agree with one another, and have a root from which each object is reached by its one name, spell a tree that
-- keeps the rules.
use Rattle.std.proofs.Common.{◌≡◌, ℕ, ◌<◌, ◌≤◌, length, Option, Some, slice_get, refl, sym, ap, ◌∙◌, subst}
use Rattle.std.specs.Prelude.{IsSome, ◌↔◌}
use Rattle.std.proofs.lemmas.List.{length-map}
use Rattle.ds_base.specs.Geometry.{items_of}
use Rattle.ds_base.specs.declared.geometry.Geom.{Geom}
use Rattle.ds_base.specs.declared.geometry.Kind.TheVariants.{Fb}
use Rattle.ds_fd.specs.Body.{IsBody}
use Rattle.ds_fd.specs.declared.body.Body.{Body}
use Rattle.ds_tree.specs.Nodes.{Node, Object, node_at, birth_at}
use Rattle.ds_tree.specs.Nodes as nodes
use Rattle.ds_tree.specs.WellFormed.{IsTree}
use Rattle.ds_image_parts.specs.Looks.{Look}
use Rattle.ds_image_parts.specs.Objects.{object_of, tree_of, blocks_of}
use Rattle.ds_image_tables.specs.Owns.{IsAt}
use Rattle.ds_image_parts.specs.Parts.{Parts, part_at}
use Rattle.ds_image_parts.specs.Readings.{ReadsParts}
use Rattle.ds_image.specs.Rooted.{IsRooted}
use Rattle.ds_image.specs.Sound.{IsSound, block_lists}
use Rattle.ds_image.proofs.FileTrees.DirNodes.{dirs-of, files-of, born-of}
use Rattle.ds_image.proofs.Ownership.ItemCounts.{within}
use Rattle.ds_image.proofs.Ownership.Listed.{block_listed_within}
use Rattle.ds_image.proofs.FileTrees.RootedTrees.{named-once, root-is_dir, root-birth, rooted-from_tree}
use Rattle.ds_image.proofs.Spelling.Sizes.{body_is}
use Rattle.ds_image.proofs.Spelling.SoundParts.{all-from_at, list-is}
use Rattle.ds_image.proofs.FileTrees.TreeParts.{object-is, objects-are, node-is, blocks-are, used-at}

module _ (g : Geom) (look : Look) (p : Parts) (reads : ReadsParts g look p) (sound : IsSound p) where
  bodies-are : (o : ℕ) (b : Body) → part_at p.bodies o ≡ Some b → IsBody b
  bodies-are o b there = body_is g look p o b reads there

  listed-block : (o i b : ℕ) → slice_get (nodes.blocks_of (node_at (tree_of p) o)) i ≡ Some b → IsAt (block_lists p) o i b
  listed-block o i b at = ap (λ l. slice_get l i) (list-is (blocks_of p) p.bodies refl o ∙ sym (blocks-are p o)) ∙ at

  pub tree-from_rooted : IsRooted p → IsTree g (tree_of p)
  tree-from_rooted rooted = record {
    count = ap length (objects-are p) ∙ length-map p.bodies (object_of p) ∙ reads.bodies.len;
    root_dir = root-is_dir p rooted.root;
    root_birth = root-birth p rooted.root;
    born = λ n some.
        subst (λ (o : Object). 1 ≤ o.birth) (sym (object-is p n))
        (born-of p (part_at p.bodies n) (bodies-are n) (subst (λ (node : Option Node). IsSome node) (node-is p n) some));
    dirs = λ n entries rooms is. dirs-of g look p (part_at p.bodies n) entries rooms reads (bodies-are n) (sym (node-is p n) ∙ is);
    files = λ n blocks is. files-of p (part_at p.bodies n) blocks (bodies-are n) (sym (node-is p n) ∙ is);
    named_once = named-once p sound rooted.named;
    reached = λ n some. rooted.reached n (used-at p n some);
    blocks_apart = λ n m i j b one two. sound.block_owners.once n i m j b (listed-block n i b one) (listed-block m j b two);
    blocks_in_range = λ n. all-from_at (λ b. b < items_of g Fb) (nodes.blocks_of (node_at (tree_of p) n))
        (λ i b at. block_listed_within g look p n i b reads sound (listed-block n i b at));
    within = within g look p reads sound;
  }

  pub tree-iff_rooted : IsTree g (tree_of p) ↔ IsRooted p
  tree-iff_rooted = (rooted-from_tree g p sound, tree-from_rooted)

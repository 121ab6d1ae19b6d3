-- The names in the tree that parts spell are those in the rooms of its directories.
use Rattle.std.proofs.Common.{◌≡◌, ℕ, List, length, map, None, sym, ap, ◌∙◌, inl, inr, arith}
use Rattle.std.specs.Cmp.Lexicographic.{nat_list_cmp_total}
use Rattle.std.specs.FinMap as maps
use Rattle.std.proofs.lemmas.Bool.{cases_lt}
use Rattle.std.proofs.lemmas.List.{get_or-map, get_or_past, length-map}
use Rattle.ds_dir.specs.declared.sub_block.Entry.{Entry}
use Rattle.ds_tree.specs.Nodes.{Entries, Object, unborn, object_at, node_at}
use Rattle.ds_tree.specs.Trees as trees
use Rattle.ds_image_parts.specs.Objects.{object_of, tree_of, subs_of, entries_of, used_rooms}
use Rattle.ds_image_parts.specs.Parts.{Parts, part_at}
use Rattle.ds_image.proofs.FileTrees.TreeParts.{entries-of}
use Rattle.ds_check.specs.Entries.{rooms_at}
use Rattle.ds_check.proofs.EntryRooms.{found_in}

-- the object of each number, also past the last
object-is : (p : Parts) (o : ℕ) → object_at (tree_of p) o ≡ object_of p (part_at p.bodies o)
unfolding tree_of
object-is p o = elim (cases_lt o (length p.bodies)) [
  | inl below ↦ get_or-map (object_of p) p.bodies o None unborn below
  | inr past ↦ get_or_past (map (object_of p) p.bodies) o unborn (omega (arith, length-map p.bodies (object_of p))) ∙ ap (object_of p) (sym (get_or_past p.bodies o None past))
]

entries-are : (p : Parts) (o : ℕ) → trees.entries_of (node_at (tree_of p) o) ≡ entries_of p (subs_of (part_at p.bodies o))
entries-are p o = ap (λ (x : Object). trees.entries_of x.node) (object-is p o) ∙ entries-of p (part_at p.bodies o)

-- the entry of a name is that which is found in the rooms
pub name-found : (p : Parts) (dir : ℕ) (name : List ℕ) → maps.get (trees.entries_of (node_at (tree_of p) dir)) name ≡ found_in name (rooms_at p dir)
name-found p dir name =
    ap (λ (m : Entries). maps.get m name) (entries-are p dir)
    ∙ maps.get-from_entries nat_list_cmp_total (map (λ (e : Entry). (e.name, e.key.object)) (used_rooms p (subs_of (part_at p.bodies dir)))) name

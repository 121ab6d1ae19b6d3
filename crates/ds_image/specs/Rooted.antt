-- What the parts of an image that agree with one another lack to spell a tree that keeps the rules.
use Rattle.std.specs.Prelude.{◌≡◌, ℕ, Bool, true, false, List, map, slice_set, Some}
use Rattle.ds_base.specs.declared.names.NodeKind.TheVariants as kinds
use Rattle.ds_fd.specs.declared.body.Body.{Body}
use Rattle.ds_tree.specs.WellFormed.{Reached}
use Rattle.ds_image_parts.specs.Listings.{lists_by}
use Rattle.ds_image_parts.specs.declared.listings.Listed.TheVariants as listed
use Rattle.ds_image_parts.specs.Objects.{is_used, tree_of}
use Rattle.ds_image_tables.specs.Owns.{Owns}
use Rattle.ds_image_parts.specs.Parts.{Parts, part_at}

-- object 0 is a directory with birth 1
pub record HasRoot (p : Parts) : Type 0 where
  pub body : Body
  pub there : part_at p.bodies 0 ≡ Some body
  pub kind : body.kind ≡ Some kinds.Dir
  pub birth : body.birth ≡ 1

-- for each descriptor, whether it is in use and not the root
abbrev pub named_bits : Parts → List Bool
named_bits p = slice_set (map is_used p.bodies) 0 false

-- each used object but the root has exactly one name, the root and free ones have none, and all are reached from the root
pub record IsRooted (p : Parts) : Type 0 where
  pub root : HasRoot p
  pub named : Owns (lists_by p listed.Names) (named_bits p)
  pub reached : (o : ℕ) → is_used (part_at p.bodies o) ≡ true → Reached (tree_of p) o

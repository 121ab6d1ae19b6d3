-- The parents of the objects of a file tree.
use Rattle.std.specs.Prelude.{◌≡◌, ◌≢◌, ℕ, List, Option, Some}
use Rattle.ds_tree.specs.Nodes.{FileTree}
use Rattle.ds_tree.specs.WellFormed.{Names}
use Rattle.ds_image_tables.specs.Parents.{parent_of}

-- the parent of each object but the root is the one directory that names it; what no directory names has none
pub record AreParentsIn (t : FileTree) (parents : List (Option ℕ)) : Type 0 where
  pub named : (o dir : ℕ) → o ≢ 0 → parent_of parents o ≡ Some dir → (name : List ℕ) × Names t dir name o
  pub only : (dir : ℕ) (name : List ℕ) (o : ℕ) → o ≢ 0 → Names t dir name o → parent_of parents o ≡ Some dir

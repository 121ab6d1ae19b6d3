-- The parent of each object that a directory names, as it is put down.
use Rattle.std.specs.Prelude.{◌≡◌, ℕ, ◌<◌, ◌⊎◌, List, length, slice_get, Option, Some}
use Rattle.ds_image_tables.specs.Owns.{IsAt}
use Rattle.ds_image_tables.specs.Parents.{parent_of}

-- these objects have this parent, and all others what they had
pub record SetsParents (old : List (Option ℕ)) (named : List ℕ) (dir : ℕ) (new : List (Option ℕ)) : Type 0 where
  pub count : length new ≡ length old
  pub here : (i o : ℕ) → slice_get named i ≡ Some o → o < length old → parent_of new o ≡ Some dir
  pub kept : (o : ℕ) → ((i : ℕ) → ¬ (slice_get named i ≡ Some o)) → parent_of new o ≡ parent_of old o
  pub from : (o parent : ℕ) → parent_of new o ≡ Some parent
      → ((parent ≡ dir) × ((i : ℕ) × (slice_get named i ≡ Some o))) ⊎ (parent_of old o ≡ Some parent)

-- what the first n directories name has them as parents, and nothing else has one
pub record AreParentsOf (lists : List (List ℕ)) (n : ℕ) (parents : List (Option ℕ)) : Type 0 where
  pub named : (o dir : ℕ) → parent_of parents o ≡ Some dir → (dir < n) × ((i : ℕ) × IsAt lists dir i o)
  pub only : (dir i o : ℕ) → dir < n → IsAt lists dir i o → o < length parents → parent_of parents o ≡ Some dir

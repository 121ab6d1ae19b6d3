-- Which objects are reached from the root, each having at most one parent.
use Rattle.std.specs.Prelude.{◌≡◌, ℕ, ◌<◌, ◌↔◌, Bool, true, false, List, length, Option, None, Some, slice_index_or}

-- the parent of an object; objects past the last have none
abbrev pub parent_of : List (Option ℕ) → ℕ → Option ℕ
parent_of parents o = slice_index_or parents o None

-- object o is the root, which is number 0, or its parent leads to the root
pub data LeadsToRoot (parents : List (Option ℕ)) : ℕ → Type 0 where
  AtRoot : LeadsToRoot parents 0
  ByParent : (o p : ℕ) → parent_of parents o ≡ Some p → LeadsToRoot parents p → LeadsToRoot parents o

-- for each object, whether it leads to the root
pub record AreReached (parents : List (Option ℕ)) (reached : List Bool) : Type 0 where
  pub count : length reached ≡ length parents
  pub exact : (o : ℕ) → o < length parents → (slice_index_or reached o false ≡ true) ↔ LeadsToRoot parents o

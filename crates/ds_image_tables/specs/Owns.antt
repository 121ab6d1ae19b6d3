-- Which object lists which items, and which items are marked as used.
use Rattle.std.specs.Prelude.{◌≡◌, ℕ, Bool, true, false, List, [], Some, slice_get, slice_index_or}

-- the items that object number o lists, in order
abbrev pub list_of : List (List ℕ) → ℕ → List ℕ
list_of lists o = slice_index_or lists o []

-- item x is the i-th that object o lists
abbrev pub IsAt : List (List ℕ) → ℕ → ℕ → ℕ → Type 0
IsAt lists o i x = slice_get (list_of lists o) i ≡ Some x

-- whether item x is marked; items past the last are not
abbrev pub bit : List Bool → ℕ → Bool
bit bits x = slice_index_or bits x false

-- no item is listed twice, and an item is marked exactly where an object lists it
pub record Owns (lists : List (List ℕ)) (bits : List Bool) : Type 0 where
  pub once : (o i p j x : ℕ) → IsAt lists o i x → IsAt lists p j x → (o ≡ p) × (i ≡ j)
  pub marked : (o i x : ℕ) → IsAt lists o i x → bit bits x ≡ true
  pub listed : (x : ℕ) → bit bits x ≡ true → (o : ℕ) × ((i : ℕ) × IsAt lists o i x)

-- How lists of items and marks change where an object lists other items than before.
use Rattle.std.specs.Prelude.{◌≡◌, ◌≢◌, ◌↔◌, ◌⊎◌, ℕ, Bool, true, false, List, length, Contains, Some, slice_get}
use Rattle.ds_image_tables.specs.Owns.{list_of, bit}

-- object o lists these items, and every other object lists what it did
pub record ReplacesItems (lists : List (List ℕ)) (o : ℕ) (items : List ℕ) (others : List (List ℕ)) : Type 0 where
  pub here : list_of others o ≡ items
  pub elsewhere : (p : ℕ) → p ≢ o → list_of others p ≡ list_of lists p

-- an item is marked exactly where it is a new one, or was marked before and is none of the old ones
pub record ReplacesMarks (bits : List Bool) (old new : List ℕ) (after : List Bool) : Type 0 where
  pub count : length after ≡ length bits
  pub marks : (x : ℕ) → (bit after x ≡ true) ↔ (Contains new x ⊎ ((bit bits x ≡ true) × ¬ Contains old x))

-- new items can take the place of old ones: none stands twice among them, and each is an old one or wasn't marked
pub record CanReplace (bits : List Bool) (old new : List ℕ) : Type 0 where
  pub once : (i j x : ℕ) → slice_get new i ≡ Some x → slice_get new j ≡ Some x → i ≡ j
  pub from : (i x : ℕ) → slice_get new i ≡ Some x → Contains old x ⊎ (bit bits x ≡ false)

-- new items are marked, old ones that aren't new are clear, and all others are as they were
pub record BitsReplaced (bits : List Bool) (old new : List ℕ) (after : List Bool) : Type 0 where
  pub count : length after ≡ length bits
  pub taken : (x : ℕ) → Contains new x → bit after x ≡ true
  pub given : (x : ℕ) → Contains old x → ¬ Contains new x → bit after x ≡ false
  pub kept : (x : ℕ) → ¬ Contains old x → ¬ Contains new x → bit after x ≡ bit bits x

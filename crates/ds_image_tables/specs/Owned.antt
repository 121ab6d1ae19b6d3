-- How lists of items and marks change: items given to an object or given up by it, marked or cleared.
use Rattle.std.specs.Prelude.{◌≡◌, ◌↔◌, ◌⊎◌, ℕ, ◌+◌, ◌<◌, Bool, true, false, List, length, take, fold, Contains, Some, slice_get, slice_set}
use Rattle.ds_image_tables.specs.Owns.{bit}

-- these items can be marked: each is there and not marked, and none stands twice among them
pub record CanMark (bits : List Bool) (items : List ℕ) : Type 0 where
  pub clear : (i x : ℕ) → slice_get items i ≡ Some x → slice_get bits x ≡ Some false
  pub once : (i j x : ℕ) → slice_get items i ≡ Some x → slice_get items j ≡ Some x → i ≡ j

-- an item is marked exactly where it was before or is one of these
pub record AddsMarks (bits : List Bool) (items : List ℕ) (after : List Bool) : Type 0 where
  pub count : length after ≡ length bits
  pub marks : (x : ℕ) → (bit after x ≡ true) ↔ ((bit bits x ≡ true) ⊎ Contains items x)

-- the marks with those of these items set one after another
abbrev pub with_marks : List Bool → List ℕ → Bool → List Bool
with_marks bits items to = fold (λ bits x. slice_set bits x to) bits items

-- the items before number n of the list are marked, and with that one they can't be
pub record StopsMarking (bits : List Bool) (items : List ℕ) (n : ℕ) (after : List Bool) : Type 0 where
  pub within : n < length items
  pub before : CanMark bits (take n items)
  pub marked : AddsMarks bits (take n items) after
  pub at_fault : ¬ CanMark bits (take (n + 1) items)

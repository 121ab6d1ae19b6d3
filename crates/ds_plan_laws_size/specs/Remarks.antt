-- Marks of items of which some are given up and some are taken.
use Rattle.std.specs.Prelude.{◌≡◌, ℕ, Bool, true, false, List, length, Contains}
use Rattle.ds_image_tables.specs.Owns.{bit}

-- items given up are marked no more, those taken are, and all others are as they were
pub record Remarks (bits : List Bool) (given taken : List ℕ) (after : List Bool) : Type 0 where
  pub count : length after ≡ length bits
  pub gone : (x : ℕ) → Contains given x → bit after x ≡ false
  pub come : (x : ℕ) → Contains taken x → bit after x ≡ true
  pub kept : (x : ℕ) → ¬ Contains given x → ¬ Contains taken x → bit after x ≡ bit bits x

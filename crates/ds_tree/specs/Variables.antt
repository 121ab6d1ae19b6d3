-- Which words are variables.
use Rattle.std.specs.Prelude.{◌≡◌, ◌≢◌, ℕ, ◌≤◌, Bool, true, nat_le, ◌&&◌, ◌||◌, List, length, slice_index, codes}
use Rattle.std.specs.List.{list_all}

abbrev pub is_lower_or_digit : ℕ → Bool
is_lower_or_digit b = (nat_le 97 b && nat_le b 122) || (nat_le 48 b && nat_le b 57)

-- 1 to 16 lower-case letters and digits that begin with a letter, and not the word for the root
pub record IsVariable (bytes : List ℕ) : Type 0 where
  pub nonempty : 1 ≤ length bytes
  pub short : length bytes ≤ 16
  pub letter : 97 ≤ slice_index bytes 0
  pub of_these : list_all is_lower_or_digit bytes ≡ true
  pub not_root : bytes ≢ codes "root"

-- Which words are names.
use Rattle.std.specs.Prelude.{◌≡◌, ◌≢◌, ℕ, ◌≤◌, ◌<◌, Bool, true, nat_le, ◌==◌, ◌&&◌, ◌||◌, List, [], ◌∷◌, length}
use Rattle.std.specs.List.{list_all}

-- an ASCII letter or digit, a dot, a low line or a hyphen
abbrev pub is_name_byte : ℕ → Bool
is_name_byte b =
    (nat_le 97 b && nat_le b 122) || (nat_le 65 b && nat_le b 90) || (nat_le 48 b && nat_le b 57)
    || b == 46 || b == 95 || b == 45

-- 1 to 100 such bytes, and neither one dot nor two
pub record IsName (bytes : List ℕ) : Type 0 where
  pub nonempty : 1 ≤ length bytes
  pub short : length bytes ≤ 100
  pub of_name_bytes : list_all is_name_byte bytes ≡ true
  pub no_dot : bytes ≢ 46 ∷ []
  pub no_dots : bytes ≢ 46 ∷ 46 ∷ []

-- an ASCII byte that prints, and no blank
abbrev pub IsPrinted : ℕ → Type 0
IsPrinted b = (32 < b) × (b < 127)

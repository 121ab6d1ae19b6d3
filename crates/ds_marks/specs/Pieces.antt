-- What stands at an offset of some bytes.
use Rattle.std.specs.Prelude.{ℕ, ◌+◌, ◌*◌, List, [], ◌∷◌, take, drop}

-- the number that these bytes spell, the lowest first
abbrev pub number_of : List ℕ → ℕ
number_of [] = 0
number_of (b ∷ bs) = b + 256 * number_of bs

-- so many bytes from an offset on
abbrev pub piece_at : ℕ → ℕ → List ℕ → List ℕ
piece_at at n bytes = take n (drop at bytes)

-- the number that is spelled there
abbrev pub number_at : ℕ → ℕ → List ℕ → ℕ
number_at at n bytes = number_of (piece_at at n bytes)

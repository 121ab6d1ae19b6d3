-- The lines of a text that is written.
use Rattle.std.specs.Prelude.{ℕ, List, ◌++◌, ◌∷◌, []}

-- words and the line feed that ends their line
abbrev pub line : List ℕ → List ℕ
line words = words ++ 10 ∷ []

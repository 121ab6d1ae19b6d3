-- What it is to read all input and to write all output.
use Rattle.std.specs.Prelude.{◌≡◌, ℕ, ◌≤◌, List, [], length, take, Option, Some, None, MatchOption}
use Rattle.ds_base.specs.Outside.{Extends}

-- these bytes are all that was left, where that is told, and nothing is left now
abbrev pub IsReadWhole : Option (List ℕ) → Option (List ℕ) → List ℕ → Type 0
IsReadWhole old new bytes = MatchOption old (new ≡ None) (λ left. (left ≡ bytes) × (new ≡ Some []))

-- the first of these bytes, however many, were added to what was taken, where that is told
abbrev pub ExtendsByPart : Option (List ℕ) → Option (List ℕ) → List ℕ → Type 0
ExtendsByPart old new bytes = (n : ℕ) × (n ≤ length bytes) × Extends old new (take n bytes)

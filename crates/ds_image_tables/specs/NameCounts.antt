-- How many names each object has.
use Rattle.std.specs.Prelude.{◌≡◌, ℕ, ◌<◌, ◌==◌, List, length, count_by, slice_index}

-- the table has for each of its objects how often it stands in the list of all that are named
abbrev pub CountsNames : List ℕ → List ℕ → Type 0
CountsNames table named = (object : ℕ) → object < length table → slice_index table object ≡ count_by (λ o. o == object) named

-- Which objects use an item, from a list of all uses.
use Rattle.std.specs.Prelude.{◌≡◌, ℕ, ◌<◌, ◌==◌, List, [], length, take, map, filter, slice_index_or}

-- the objects that use an item, in the order of the uses; a use is an item and an object
abbrev pub users : List (ℕ × ℕ) → ℕ → List ℕ
users uses item = map (λ u. u.1) (filter (λ u. u.0 == item) uses)

-- the uses of items by one object that lists them
abbrev pub uses_by : ℕ → List ℕ → List (ℕ × ℕ)
uses_by object items = map (λ item. (item, object)) items

-- the users that a table has of an item
abbrev pub users_in : List (List ℕ) → ℕ → List ℕ
users_in table item = slice_index_or table item []

-- the table has the first two users of each of its items
abbrev pub KnowsUsers : List (List ℕ) → List (ℕ × ℕ) → Type 0
KnowsUsers table uses = (item : ℕ) → item < length table → users_in table item ≡ take 2 (users uses item)

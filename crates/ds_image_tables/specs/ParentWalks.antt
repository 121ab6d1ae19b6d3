-- Walks from object to parent, by number, and which of them came to each object first.
use Rattle.std.specs.Prelude.{◌≡◌, ℕ, ◌<◌, ◌↔◌, Bool, true, false, List, length, Option, None, Some, slice_index_or}
use Rattle.ds_image_tables.specs.Parents.{LeadsToRoot}

-- the number of the walk that came to an object, if one did
abbrev pub walk_to : List (Option ℕ) → ℕ → Option ℕ
walk_to seen o = slice_index_or seen o None

-- whether a walk led to the root
abbrev pub led : List Bool → ℕ → Bool
led leads walk = slice_index_or leads walk false

-- each object that a walk came to leads to the root exactly where that walk did; a walk came to the root, and to each object
-- whose number is below the number of walks
pub record AreSettled (parents seen : List (Option ℕ)) (leads : List Bool) : Type 0 where
  pub count : length seen ≡ length parents
  pub root : walk_to seen 0 ≡ Some 0
  pub known : (o walk : ℕ) → walk_to seen o ≡ Some walk → (walk < length leads) × ((led leads walk ≡ true) ↔ LeadsToRoot parents o)
  pub covered : (o : ℕ) → o < length leads → (walk : ℕ) × (walk_to seen o ≡ Some walk)

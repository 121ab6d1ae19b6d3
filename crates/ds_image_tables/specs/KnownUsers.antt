-- The users that a row of a table names.
use Rattle.std.specs.Prelude.{ℕ, List, [], ◌∷◌}
use Rattle.ds_image_tables.specs.declared.users.FirstUsers.{FirstUsers}
use Rattle.ds_image_tables.specs.declared.users.FirstUsers.TheVariants.{Unused, Once, Twice}

-- the users in a row, the first first
abbrev pub known_users : FirstUsers → List ℕ
known_users Unused = []
known_users (Once first) = first ∷ []
known_users (Twice first second) = first ∷ second ∷ []

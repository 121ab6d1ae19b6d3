-- The rows of a table of users, and what the table tells of them.
use Rattle.std.proofs.Common.{◌≡◌, ℕ, zero, suc, ◌<◌, List, [], ◌∷◌, length, map, replicate, get_or, refl, sym, ap, ◌∙◌, arith}
use Rattle.std.proofs.lemmas.List.{length-map, get_or-map}
use Rattle.std.specs.Prelude.{slice_get}
use Rattle.ds_image_tables.specs.declared.users.FirstUsers.{FirstUsers}
use Rattle.ds_image_tables.specs.declared.users.FirstUsers.TheVariants.{Unused}
use Rattle.ds_image_tables.specs.KnownUsers.{known_users}
use Rattle.ds_image_tables.specs.Users.{users_in}

-- a row that was read has the users that the table tells
pub row-read : (rows : List FirstUsers) (item : ℕ) (row : FirstUsers) (table : List (List ℕ)) → map known_users rows ≡ table
    → item < length table
    → row ≡ get_or rows item row → known_users row ≡ users_in table item
row-read rows item row table is within read =
    let there : item < length rows = omega (arith, within, ap (length {A = List ℕ}) is, length-map rows known_users) in
    ap known_users read ∙ sym (get_or-map known_users rows item row [] there) ∙ ap (λ t. users_in t item) is

pub unused-rows : (n : ℕ) → map known_users (replicate n Unused) ≡ replicate n []
unused-rows zero = refl
unused-rows (suc n) = ap (λ t. [] ∷ t) (unused-rows n)

pub nothing-used : (n item : ℕ) → users_in (replicate n []) item ≡ []
nothing-used zero item = refl
nothing-used (suc n) zero = refl
nothing-used (suc n) (suc item) = nothing-used n item

-- the first users of rows are those that the table tells
pub firsts-of-rows : (rows : List FirstUsers)
    → map (λ row. slice_get (known_users row) 0) rows ≡ map (λ (users : List ℕ). slice_get users 0) (map known_users rows)
firsts-of-rows [] = refl
firsts-of-rows (row ∷ rows) = ap (λ t. slice_get (known_users row) 0 ∷ t) (firsts-of-rows rows)

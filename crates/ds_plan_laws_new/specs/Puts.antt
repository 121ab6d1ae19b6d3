-- Lists of which one has one item more.
use Rattle.std.specs.Prelude.{◌≡◌, List, ◌∷◌, ◌++◌}

-- the second list is the first with this item put in somewhere
pub record IsPut {X : Type 0} (x : X) (less more : List X) : Type 0 where
  pub front : List X
  pub back : List X
  pub without : less ≡ front ++ back
  pub put_in : more ≡ front ++ x ∷ back

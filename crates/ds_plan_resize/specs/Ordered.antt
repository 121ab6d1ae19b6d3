-- Pairs in the rising order of their sectors.
use Rattle.std.specs.Prelude.{ℕ, suc, Bool, false, Option, Some, None, nat_lt, ◌==◌, if◌then◌else◌, List, [], ◌∷◌, fold}
use Rattle.ds_image_parts.specs.Pending.{Pair}

-- pairs whose sectors rise with one more in its place; of two for one sector the later one counts
abbrev pub put_in : Pair → List Pair → List Pair
put_in pair [] = pair ∷ []
put_in pair (other ∷ pairs) =
    if nat_lt other.0 pair.0 then other ∷ put_in pair pairs else if other.0 == pair.0 then pair ∷ pairs else pair ∷ other ∷ pairs

-- these pairs put in one after another
abbrev pub put_all_in : List Pair → List Pair → List Pair
put_all_in into pairs = fold (λ into pair. put_in pair into) into pairs

abbrev pub in_order : List Pair → List Pair
in_order pairs = put_all_in [] pairs

-- where the first pair stands whose sector isn't below this one, in pairs that begin at this place
abbrev pub place_from : ℕ → ℕ → List Pair → ℕ
place_from place at [] = place
place_from place at (pair ∷ pairs) = if nat_lt pair.0 at then place_from (suc place) at pairs else place

-- whether what stands somewhere is a pair for this sector
abbrev pub is_for : ℕ → Option Pair → Bool
is_for at None = false
is_for at (Some pair) = pair.0 == at

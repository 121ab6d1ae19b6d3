-- What the tests of a name add up to.
use Rattle.std.proofs.Common.{◌≡◌, ℕ, ◌≤◌, ◌⊎◌, Bool, true, false, IsTrue, ◌↔◌, List, [], ◌∷◌, length, ⊎_elim, inl, inr, refl}
use Rattle.std.proofs.lemmas.Bool.{false≢true}
use Rattle.std.specs.List.{list_all}
use mathlib.Core.Bool.{not}
use Rattle.ds_base.specs.Names.{IsName, is_name_byte}

-- bytes that pass the other tests are a name where they are no dots
pub IsName-by_dots : (bytes : List ℕ) (dots : Bool) → (IsTrue dots ↔ ((bytes ≡ 46 ∷ []) ⊎ (bytes ≡ 46 ∷ 46 ∷ []))) → 1 ≤ length bytes → length bytes ≤ 100 → list_all is_name_byte bytes ≡ true → IsTrue (not dots) ↔ IsName bytes
IsName-by_dots bytes true tested nonempty short named =
    (λ h. absurd (false≢true h), λ name. absurd (⊎_elim name.no_dot name.no_dots (tested.0 refl)))
IsName-by_dots bytes false tested nonempty short named = (
  λ _. record {
    nonempty = nonempty;
    short = short;
    of_name_bytes = named;
    no_dot = λ e. false≢true (tested.1 (inl e));
    no_dots = λ e. false≢true (tested.1 (inr e));
  },
  λ _. refl,
)

-- What `next` gives is the first of the items that come.
use Rattle.std.proofs.Common.{◌≡◌, List, [], ◌∷◌, refl, ap, Option, Some, None}
use Rattle.std.specs.Prelude.{slice_get}
use Rattle.std.specs.Iterator.{AlwaysYields}
use Rattle.std.proofs.lemmas.Iterator.{YieldsList}

first_of : {S A : Type 0} (steps : S → Option A → S → Type 0) (s u : S) (items : List A) (r : Option A) → AlwaysYields steps (λ y. y) s items → steps s r u → r ≡ slice_get items 0
first_of steps s u [] None all took = refl
first_of steps s u [] (Some x) all took = absurd (all x u took)
first_of steps s u (y ∷ items) None all took = absurd (all.0 u took)
first_of steps s u (y ∷ items) (Some x) all took = ap Some (all.1 x u took).0

pub first_item : {S A : Type 0} {steps : S → Option A → S → Type 0} {s : S} {items : List A} (u : S) (r : Option A) → YieldsList steps (λ y. y) s items → steps s r u → r ≡ slice_get items 0
first_item {steps = steps} {s = s} {items = items} u r all took = first_of steps s u items r all.runs took

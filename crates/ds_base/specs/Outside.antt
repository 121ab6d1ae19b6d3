-- What a source gives and a sink takes.
use Rattle.std.specs.Prelude.{◌≡◌, ℕ, ◌+◌, ◌-◌, ◌^◌, ◌≤◌, min, List, [], ◌++◌, length, take, Option, Some, None, MatchOption, IfSome}
use Rattle.ds_base.specs.declared.outside.Taken.{Taken}
use Rattle.ds_base.specs.declared.outside.Taken.TheVariants as takes
use Rattle.ds_base.specs.declared.outside.Gave.{Gave}
use Rattle.ds_base.specs.declared.outside.Gave.TheVariants as gives

-- a count of 64 bits after one more; at its last value it stays
abbrev pub risen : ℕ → ℕ
risen count = min (count + 1) (2 ^ 64 - 1)

-- a count rose; one that stands at its type's last value counts as risen
abbrev pub HasRisen : ℕ → ℕ → Type 0
HasRisen old new = risen old ≤ new

-- these bytes came off the front of what was left, where that is told
abbrev pub Continues : Option (List ℕ) → Option (List ℕ) → List ℕ → Type 0
Continues old new bytes = MatchOption old (new ≡ None) (λ left. MatchOption new ⊥ (λ rest. left ≡ bytes ++ rest))

-- these bytes were added to what was taken, where that is told
abbrev pub Extends : Option (List ℕ) → Option (List ℕ) → List ℕ → Type 0
Extends old new bytes = MatchOption old (new ≡ None) (λ taken. new ≡ Some (taken ++ bytes))

-- what a call of a source gave, with what was left before and after, and the buffer as it is now
abbrev pub Gives : Option (List ℕ) → Option (List ℕ) → Taken → List ℕ → Type 0
Gives old new (takes.Got n) buf = (1 ≤ n) × (n ≤ length buf) × Continues old new (take n buf)
Gives old new takes.End buf = Continues old new [] × IfSome old (λ left. left ≡ [])
Gives old new takes.Failed buf = Continues old new []

-- what a call of a sink took of a piece, with what was taken before and after
abbrev pub Accepts : Option (List ℕ) → Option (List ℕ) → Gave → List ℕ → Type 0
Accepts old new (gives.Took n) piece = (1 ≤ n) × (n ≤ length piece) × Extends old new (take n piece)
Accepts old new gives.Failed piece = Extends old new []

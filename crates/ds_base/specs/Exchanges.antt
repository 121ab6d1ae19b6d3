-- Commands with what was answered, and what is read off a list of them, the newest first.
use Rattle.std.specs.Prelude.{◌≡◌, ℕ, ◌+◌, ◌==◌, Bool, true, false, if◌then◌else◌, List, [], ◌∷◌, ◌++◌}
use Rattle.std.specs.List.{Contains}
use Rattle.ds_base.specs.declared.sectors.Sector.{Sector}
use Rattle.ds_base.specs.declared.commands.Command.{Command}
use Rattle.ds_base.specs.declared.commands.Command.TheVariants.{Read, Write, Swap}
use Rattle.ds_base.specs.declared.commands.Response.{Response}
use Rattle.ds_base.specs.declared.commands.Response.TheVariants.{Got, Done, Miscompare, Fault}

-- a command, what was answered, and when
pub record Exchange : Type 0 where
  pub command : Command
  pub response : Response
  pub tick : ℕ

-- what one exchange shows of a sector, before what others showed
abbrev pub seen_with : Command → Response → List (ℕ × Sector) → List (ℕ × Sector)
seen_with (Read at) (Got s) rest = (at, s) ∷ rest
seen_with (Swap at verify fresh) Done rest = (at, fresh) ∷ rest
seen_with command response rest = rest

-- the sectors that were read, or written by a Swap
abbrev pub seen_of : List Exchange → List (ℕ × Sector)
seen_of [] = []
seen_of (x ∷ xs) = seen_with x.command x.response (seen_of xs)

-- this sector stands in the list, and is the newest of its number
pub record IsLast (list : List (ℕ × Sector)) (at : ℕ) (s : Sector) : Type 0 where
  pub newer : List (ℕ × Sector)
  pub older : List (ℕ × Sector)
  pub parts : list ≡ newer ++ (at, s) ∷ older
  pub newest : (other : Sector) → Contains newer (at, other) → ⊥

-- whether an exchange is a Swap of this sector that found another image in place
abbrev pub is_missed : ℕ → Command → Response → Bool
is_missed at (Swap target verify fresh) (Miscompare offset) = target == at
is_missed at command response = false

-- how many Swaps of this sector found another image in place
abbrev pub missed_at : ℕ → List Exchange → ℕ
missed_at at [] = 0
missed_at at (x ∷ xs) = if is_missed at x.command x.response then missed_at at xs + 1 else missed_at at xs

-- What contracts see of a `Seen`.
use Rattle.std.specs.Prelude.{◌≡◌, ℕ, ◌≤◌, ◌==◌, if◌then◌else◌, Bool, true, List, [], ◌∷◌, ◌++◌, length, Option, Some, None}
use Rattle.std.specs.List.{list_any}
use Rattle.ds_base.specs.declared.sectors.Sector.{Sector}
use Rattle.ds_image_parts.specs.Looks.{Look, AreBlocks}
use Rattle.ds_image_parts.specs.Pending.{Pair}

-- the objects that a call holds, and the sectors that it has read, in the order in which they came
pub record SeenValue : Type 0 where
  pub locks : List ℕ
  pub sectors : List Pair

-- whether the call holds the object
abbrev pub has_lock : SeenValue → ℕ → Bool
has_lock seen object = list_any (λ x. x == object) seen.locks

-- the call holds this lock object
abbrev pub HoldsLock : SeenValue → ℕ → Type 0
HoldsLock seen object = has_lock seen object ≡ true

-- the sector with a number, where it is among the pairs
abbrev pub sector_in : List Pair → ℕ → Option Sector
sector_in [] at = None
sector_in (pair ∷ pairs) at = if pair.0 == at then Some pair.1 else sector_in pairs at

-- what the call knows of the volume
abbrev pub look_of : SeenValue → Look
look_of seen = sector_in seen.sectors

-- one more object, and one more sector
abbrev pub with_lock : SeenValue → ℕ → SeenValue
with_lock seen object = record { locks = seen.locks ++ object ∷ []; sectors = seen.sectors }

abbrev pub with_sector : SeenValue → ℕ → Sector → SeenValue
with_sector seen at s = record { locks = seen.locks; sectors = seen.sectors ++ (at, s) ∷ [] }

-- at most 64 objects, and at most 256 sectors of 512 bytes each
pub record IsSeen (seen : SeenValue) : Type 0 where
  pub few_locks : length seen.locks ≤ 64
  pub few_sectors : length seen.sectors ≤ 256
  pub blocks : AreBlocks (look_of seen)

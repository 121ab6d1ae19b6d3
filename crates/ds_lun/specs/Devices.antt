-- What contracts see of a device in memory.
use Rattle.std.specs.Prelude.{ℕ, List, map, replicate, slice_get, Option, Some, None, if◌then◌else◌}
use Rattle.std.specs.Option.{option_or}
use Rattle.std.specs.List.{range_with_len}
use Rattle.ds_base.specs.declared.sectors.Sector.{Sector}
use Rattle.ds_base.specs.declared.commands.Command.{Command}
use Rattle.ds_base.specs.declared.commands.Command.TheVariants.{Read, Write, Swap}
use Rattle.ds_base.specs.Device.{holds_image}

-- the sectors of a device, and how many more of them it can keep before it takes memory
pub record DeviceValue : Type 0 where
  pub sectors : List Sector
  pub spare : ℕ

-- the sector whose bytes are all zero
unfoldable pub zero_sector : Sector
zero_sector = record { bytes = replicate 512 0 }

-- a sector that is kept, or else zero
abbrev pub kept_or_zero : Option Sector → Sector
kept_or_zero None = zero_sector
kept_or_zero (Some s) = s

-- the sector of a number that the front holds, or else one that is kept beyond it
abbrev pub held_in : List Sector → (ℕ → Option Sector) → ℕ → Option Sector
held_in front kept at = option_or (slice_get front at) (kept at)

-- this many sectors, of which those that are not kept are zero
unfoldable pub sectors_of : (ℕ → Option Sector) → ℕ → List Sector
sectors_of kept n = map (λ (at : ℕ). kept_or_zero (kept at)) (range_with_len 0 n)

-- how many sectors a command writes: a Write one, a Swap one where it takes effect
abbrev pub writes_of : List Sector → Command → ℕ
writes_of sectors (Read at) = 0
writes_of sectors (Write at fresh) = 1
writes_of sectors (Swap at verify fresh) = if holds_image (slice_get sectors at) verify then 1 else 0

-- What slots are in, and how far they have come.
use Rattle.std.specs.Prelude.{Bool, false, not, ℕ, ◌+◌, ◌-◌, ◌*◌, ◌&&◌, nat_le, nat_lt, if◌then◌else◌, List, slice_get, Option, None, Some}
use Rattle.ds_base.specs.declared.geometry.Geom.{Geom}
use Rattle.ds_base.specs.declared.sectors.Sector.{Sector}
use Rattle.ds_marks.specs.Slot.{state_code}
use Rattle.ds_marks.specs.declared.slot.Slot.{Slot}
use Rattle.ds_marks.specs.SlotIn.{is_idle, slot_in}

-- the slot that has this sector, if it is a slot's
abbrev pub slot_number : Geom → ℕ → Option ℕ
slot_number g at = if nat_le 2 at && nat_lt at (2 + g.slots) then Some (at - 2) else None

-- the slot that the sector spells, if it spells one
abbrev pub slot_spelled : ℕ → Option Sector → Option Slot
slot_spelled a None = None
slot_spelled a (Some s) = slot_in a s.bytes

-- how far a slot has come: three for each generation, and one for each state in it
abbrev pub phase : Slot → ℕ
phase s = 3 * s.generation + state_code s.state

abbrev pub phase_of : Option Slot → ℕ
phase_of None = 0
phase_of (Some s) = phase s

-- a slot's phase, and then its stamp
abbrev pub rank : Slot → ℕ
rank s = 18446744073709551616 * phase s + s.stamp

abbrev pub rank_of : Option Slot → ℕ
rank_of None = 0
rank_of (Some s) = rank s

-- the slot with this number in a store
abbrev pub slot_at : List Sector → ℕ → Option Slot
slot_at sectors a = slot_spelled a (slice_get sectors (2 + a))

abbrev pub phase_at : List Sector → ℕ → ℕ
phase_at sectors a = phase_of (slot_at sectors a)

abbrev pub rank_at : List Sector → ℕ → ℕ
rank_at sectors a = rank_of (slot_at sectors a)

-- whether a slot's image has an idle journal
abbrev pub has_idle : Option Slot → Bool
has_idle (Some s) = is_idle s.journal
has_idle None = false

-- whether a slot's image has a committed transaction
abbrev pub has_committed : Option Slot → Bool
has_committed (Some s) = not (is_idle s.journal)
has_committed None = false

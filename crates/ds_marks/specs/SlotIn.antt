-- The slot that a sector spells, as a function of its bytes.
use Rattle.std.specs.Prelude.{ℕ, ◌^◌, ◌&&◌, ◌==◌, Bool, true, false, nat_le, nat_lt, if◌then◌else◌, List, length, replicate, Option, Some, None}
use Rattle.std.specs.Str.{bytes_eq}
use Rattle.ds_marks.specs.Pieces.{piece_at, number_at}
use Rattle.ds_marks.specs.Slot.{slot_bytes}
use Rattle.ds_marks.specs.SlotParts.{slot_of}
use Rattle.ds_marks.specs.declared.slot.Slot.{Slot}
use Rattle.ds_marks.specs.declared.slot.SlotState.{SlotState}
use Rattle.ds_marks.specs.declared.slot.SlotState.TheVariants.{Free, Live, Breaking}
use Rattle.ds_marks.specs.declared.slot.Journal.{Journal}
use Rattle.ds_marks.specs.declared.slot.Journal.TheVariants.{Idle, Committed}
use Rattle.ds_marks.specs.declared.slot_parts.SlotParts.{SlotParts}

-- the fields of a slot as they stand in these bytes
abbrev pub parts_in : List ℕ → SlotParts
parts_in bytes = record {
  magic = piece_at 0 4 bytes;
  state = number_at 4 1 bytes;
  journal = number_at 5 1 bytes;
  breaker = number_at 6 1 bytes;
  count = number_at 7 1 bytes;
  generation = number_at 8 8 bytes;
  host = piece_at 16 16 bytes;
  stamp = number_at 32 8 bytes;
  txn = number_at 40 8 bytes;
  breaker_generation = number_at 48 8 bytes;
  number = number_at 56 4 bytes;
}

-- whether a generation or a stamp is from 1 to 2^62
abbrev pub is_count : ℕ → Bool
is_count n = nat_le 1 n && nat_le n (2 ^ 62)

abbrev pub is_idle : Journal → Bool
is_idle Idle = true
is_idle (Committed txn count) = false

-- whether a state goes with the other fields
abbrev pub fits_state : SlotState → Slot → Bool
fits_state Free s = bytes_eq s.host (replicate 16 0) && (s.stamp == 0) && is_idle s.journal
fits_state Live s = is_count s.stamp
fits_state (Breaking by generation) s = is_count s.stamp && nat_lt by 16 && is_count generation

-- whether a transaction has its number and its pairs
abbrev pub fits_journal : Journal → Bool
fits_journal Idle = true
fits_journal (Committed txn count) = nat_le 1 txn && nat_lt txn (2 ^ 64) && nat_le 1 count && nat_le count 31

-- whether these are the fields of a slot
abbrev pub is_slot : Slot → Bool
is_slot s = (length s.host == 16) && is_count s.generation && fits_state s.state s && fits_journal s.journal

-- the slot, if it is one and its sector is this
abbrev pub spelled_by : ℕ → List ℕ → Option Slot → Option Slot
spelled_by number bytes None = None
spelled_by number bytes (Some s) = if is_slot s && bytes_eq bytes (slot_bytes number s) then Some s else None

-- the slot that the sector of this number spells, if it spells one
unfoldable pub slot_in : ℕ → List ℕ → Option Slot
slot_in number bytes = spelled_by number bytes (slot_of (parts_in bytes))

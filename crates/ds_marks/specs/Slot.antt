-- Which slots there are, and the sectors that spell them.
use Rattle.std.specs.Prelude.{◌≡◌, ℕ, ◌^◌, ◌<◌, ◌≤◌, List, [], ◌∷◌, length, replicate, codes}
use Rattle.ds_bytes.specs.Fields.{Field, Num, Raw, sector_of_fields}
use Rattle.ds_marks.specs.declared.slot.Slot.{Slot}
use Rattle.ds_marks.specs.declared.slot.SlotState.{SlotState}
use Rattle.ds_marks.specs.declared.slot.SlotState.TheVariants.{Free, Live, Breaking}
use Rattle.ds_marks.specs.declared.slot.Journal.{Journal}
use Rattle.ds_marks.specs.declared.slot.Journal.TheVariants.{Idle, Committed}

-- the byte that says what a slot is
abbrev pub state_code : SlotState → ℕ
state_code Free = 0
state_code Live = 1
state_code (Breaking by generation) = 2

-- the slot of the breaker, and 0 where there is none
abbrev pub breaker_of : SlotState → ℕ
breaker_of Free = 0
breaker_of Live = 0
breaker_of (Breaking by generation) = by

-- the generation of the breaker, and 0 where there is none
abbrev pub breaker_generation_of : SlotState → ℕ
breaker_generation_of Free = 0
breaker_generation_of Live = 0
breaker_generation_of (Breaking by generation) = generation

-- the byte that says what a journal is
abbrev pub journal_code : Journal → ℕ
journal_code Idle = 0
journal_code (Committed txn count) = 1

-- the number of the committed transaction, and 0 where there is none
abbrev pub txn_of : Journal → ℕ
txn_of Idle = 0
txn_of (Committed txn count) = txn

-- the count of its pairs, and 0 where there is none
abbrev pub count_of : Journal → ℕ
count_of Idle = 0
count_of (Committed txn count) = count

-- a breaker is one of 16 slots, in a generation from 1 to 2^62
abbrev pub IsBreaker : ℕ → ℕ → Type 0
IsBreaker by generation = (by < 16) × (1 ≤ generation) × (generation ≤ 2 ^ 62)

-- a free slot has no host, no stamp and an idle journal; any other has a stamp from 1 to 2^62
abbrev pub IsOfState : SlotState → Slot → Type 0
IsOfState Free s = (s.host ≡ replicate 16 0) × (s.stamp ≡ 0) × (s.journal ≡ Idle)
IsOfState Live s = (1 ≤ s.stamp) × (s.stamp ≤ 2 ^ 62)
IsOfState (Breaking by generation) s = ((1 ≤ s.stamp) × (s.stamp ≤ 2 ^ 62)) × IsBreaker by generation

-- a committed transaction has a number from 1, and 1 to 31 pairs
abbrev pub IsOfJournal : Journal → Type 0
IsOfJournal Idle = Unit {0}
IsOfJournal (Committed txn count) = (1 ≤ txn) × (1 ≤ count) × (count ≤ 31)

-- the fields have the widths of their types
pub record HasWidths (s : Slot) : Type 0 where
  pub host_size : length s.host ≡ 16
  pub txn_fits : txn_of s.journal < 2 ^ 64

-- each field is in its range
pub record InRanges (s : Slot) : Type 0 where
  pub generation_from : 1 ≤ s.generation
  pub generation_to : s.generation ≤ 2 ^ 62
  pub is_of_state : IsOfState s.state s
  pub is_of_journal : IsOfJournal s.journal

-- a slot
pub record IsSlot (s : Slot) : Type 0 where
  pub widths : HasWidths s
  pub ranges : InRanges s

-- the fields of the slot with a number
abbrev pub slot_fields : ℕ → Slot → List Field
slot_fields number s =
    Raw 4 (codes "DSHB") ∷ Num 1 (state_code s.state) ∷ Num 1 (journal_code s.journal) ∷ Num 1 (breaker_of s.state)
    ∷ Num 1 (count_of s.journal) ∷ Num 8 s.generation ∷ Raw 16 s.host ∷ Num 8 s.stamp ∷ Num 8 (txn_of s.journal)
    ∷ Num 8 (breaker_generation_of s.state) ∷ Num 4 number ∷ []

-- the sector of the slot with a number
unfoldable pub slot_bytes : ℕ → Slot → List ℕ
slot_bytes number s = sector_of_fields (slot_fields number s)

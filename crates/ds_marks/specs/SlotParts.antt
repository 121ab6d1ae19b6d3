-- The fields of a slot as they are read.
use Rattle.std.specs.Prelude.{ℕ, zero, suc, List, [], ◌∷◌, Option, Some, None}
use Rattle.ds_bytes.specs.Fields.{Field, Num, Raw}
use Rattle.ds_marks.specs.declared.slot.Slot.{Slot}
use Rattle.ds_marks.specs.declared.slot.SlotState.{SlotState}
use Rattle.ds_marks.specs.declared.slot.SlotState.TheVariants.{Free, Live, Breaking}
use Rattle.ds_marks.specs.declared.slot.Journal.{Journal}
use Rattle.ds_marks.specs.declared.slot.Journal.TheVariants.{Idle, Committed}
use Rattle.ds_marks.specs.declared.slot_parts.SlotParts.{SlotParts}

abbrev pub part_fields : SlotParts → List Field
part_fields p =
    Raw 4 p.magic ∷ Num 1 p.state ∷ Num 1 p.journal ∷ Num 1 p.breaker ∷ Num 1 p.count ∷ Num 8 p.generation
    ∷ Raw 16 p.host ∷ Num 8 p.stamp ∷ Num 8 p.txn ∷ Num 8 p.breaker_generation ∷ Num 4 p.number ∷ []

-- the state that a byte says, if it says one
abbrev pub state_named : ℕ → ℕ → ℕ → Option SlotState
state_named zero by generation = Some Free
state_named (suc zero) by generation = Some Live
state_named (suc (suc zero)) by generation = Some (Breaking by generation)
state_named (suc (suc (suc _))) by generation = None

-- the journal that a byte says, if it says one
abbrev pub journal_named : ℕ → ℕ → ℕ → Option Journal
journal_named zero txn count = Some Idle
journal_named (suc zero) txn count = Some (Committed txn count)
journal_named (suc (suc _)) txn count = None

-- the slot with these fields, where there are a state and a journal
abbrev pub slot_with : SlotParts → Option SlotState → Option Journal → Option Slot
slot_with p None journal = None
slot_with p (Some state) None = None
slot_with p (Some state) (Some journal) =
    Some (record { state = state; generation = p.generation; host = p.host; stamp = p.stamp; journal = journal })

-- the slot with these fields, if there is one
abbrev pub slot_of : SlotParts → Option Slot
slot_of p = slot_with p (state_named p.state p.breaker p.breaker_generation) (journal_named p.journal p.txn p.count)

-- What is read of a sector that spells a slot is that slot.
use Rattle.std.proofs.Common.{◌≡◌, ℕ, ◌^◌, ◌<◌, ◌≤◌, List, Some, refl, sym, ◌∙◌, arith}
use Rattle.ds_bytes.specs.Fields.{front, spelled, FieldsFit}
use Rattle.ds_bytes.proofs.Fronts.{front-padded}
use Rattle.ds_bytes.proofs.SameFields.{length-spelled, read_same}
use Rattle.ds_marks.specs.Slot.{state_code, breaker_of, breaker_generation_of, journal_code, txn_of, count_of, IsOfState, IsOfJournal, IsSlot, slot_fields, slot_bytes}
use Rattle.ds_marks.specs.SlotParts.{part_fields, state_named, journal_named, slot_of}
use Rattle.ds_marks.specs.declared.slot.Slot.{Slot}
use Rattle.ds_marks.specs.declared.slot.SlotState.{SlotState}
use Rattle.ds_marks.specs.declared.slot.SlotState.TheVariants.{Free, Live, Breaking}
use Rattle.ds_marks.specs.declared.slot.Journal.{Journal}
use Rattle.ds_marks.specs.declared.slot.Journal.TheVariants.{Idle, Committed}
use Rattle.ds_marks.specs.declared.slot_parts.SlotParts.{SlotParts}

state_fits : (t : SlotState) → state_code t < 256
state_fits Free = omega arith
state_fits Live = omega arith
state_fits (Breaking by generation) = omega arith

breaker_fits : (t : SlotState) (s : Slot) → IsOfState t s → (breaker_of t < 256) × (breaker_generation_of t < 2 ^ 64)
breaker_fits Free s h = (omega arith, omega arith)
breaker_fits Live s h = (omega arith, omega arith)
breaker_fits (Breaking by generation) s h =
    let below : by < 16 = h.1.0 in
    let most : generation ≤ 2 ^ 62 = h.1.2 in
    (omega arith, omega arith)

stamp_fits : (t : SlotState) (s : Slot) → IsOfState t s → s.stamp < 2 ^ 64
stamp_fits Free s h = let none : s.stamp ≡ 0 = h.1 in omega arith
stamp_fits Live s h = let most : s.stamp ≤ 2 ^ 62 = h.1 in omega arith
stamp_fits (Breaking by generation) s h = let most : s.stamp ≤ 2 ^ 62 = h.0.1 in omega arith

journal_fits : (j : Journal) → IsOfJournal j → (journal_code j < 256) × (count_of j < 256)
journal_fits Idle h = (omega arith, omega arith)
journal_fits (Committed txn count) h = let most : count ≤ 31 = h.2 in (omega arith, omega arith)

pub slot_fields_fit : (number : ℕ) (s : Slot) → number < 256 → IsSlot s → FieldsFit (slot_fields number s)
slot_fields_fit number s below h =
    let generation : s.generation ≤ 2 ^ 62 = h.ranges.generation_to in
    let txn : txn_of s.journal < 2 ^ 64 = h.widths.txn_fits in
    let breaker = breaker_fits s.state s h.ranges.is_of_state in
    let journal = journal_fits s.journal h.ranges.is_of_journal in (
      refl,
      (
        state_fits s.state,
        (
          journal.0,
          (
            breaker.0,
            (
              journal.1,
              (
                omega arith,
                (
                  h.widths.host_size,
                  (stamp_fits s.state s h.ranges.is_of_state, (txn, (breaker.1, (omega arith, tt)))),
                ),
              ),
            ),
          ),
        ),
      ),
    )

state_again : (t : SlotState) → state_named (state_code t) (breaker_of t) (breaker_generation_of t) ≡ Some t
state_again Free = refl
state_again Live = refl
state_again (Breaking by generation) = refl

journal_again : (j : Journal) → journal_named (journal_code j) (txn_of j) (count_of j) ≡ Some j
journal_again Idle = refl
journal_again (Committed txn count) = refl

pub names_slot : (number : ℕ) (bytes : List ℕ) (p : SlotParts) (s : Slot) → number < 256 → FieldsFit (part_fields p) → IsSlot s → front 60 bytes ≡ spelled (part_fields p) → bytes ≡ slot_bytes number s → slot_of p ≡ Some s
unfolding slot_bytes
names_slot number bytes p s below fits h read e =
    let same : part_fields p ≡ slot_fields number s = read_same 60 (part_fields p) (slot_fields number s) bytes refl refl fits (slot_fields_fit number s below h) read e in
    let state : p.state ≡ state_code s.state = cc in
    let journal : p.journal ≡ journal_code s.journal = cc in
    let by : p.breaker ≡ breaker_of s.state = cc in
    let count : p.count ≡ count_of s.journal = cc in
    let generation : p.generation ≡ s.generation = cc in
    let host : p.host ≡ s.host = cc in
    let stamp : p.stamp ≡ s.stamp = cc in
    let txn : p.txn ≡ txn_of s.journal = cc in
    let by_generation : p.breaker_generation ≡ breaker_generation_of s.state = cc in
    rw (state, by, by_generation, state_again s.state, journal, txn, count, journal_again s.journal, generation, host, stamp) refl

state_same : (t u : SlotState) → state_code t ≡ state_code u → breaker_of t ≡ breaker_of u → breaker_generation_of t ≡ breaker_generation_of u → t ≡ u
state_same t u p q r =
    let named : state_named (state_code t) (breaker_of t) (breaker_generation_of t) ≡ state_named (state_code u) (breaker_of u) (breaker_generation_of u) = rw (p, q, r) refl in
    let some : Some t ≡ Some u = sym (state_again t) ∙ named ∙ state_again u in
    cc

journal_same : (i j : Journal) → journal_code i ≡ journal_code j → txn_of i ≡ txn_of j → count_of i ≡ count_of j → i ≡ j
journal_same i j p q r =
    let named : journal_named (journal_code i) (txn_of i) (count_of i) ≡ journal_named (journal_code j) (txn_of j) (count_of j) = rw (p, q, r) refl in
    let some : Some i ≡ Some j = sym (journal_again i) ∙ named ∙ journal_again j in
    cc

same_slot : (a b : Slot) → a.state ≡ b.state → a.generation ≡ b.generation → a.host ≡ b.host → a.stamp ≡ b.stamp → a.journal ≡ b.journal → a ≡ b
same_slot a b p q r s t =
    let made : Slot = record { state = a.state; generation = a.generation; host = a.host; stamp = a.stamp; journal = a.journal } in
    let same : made ≡ b = rw (p, q, r, s, t) refl in
    same

-- two slots that are spelled alike are one, and have one number
pub slot_same : (m n : ℕ) (a b : Slot) → m < 256 → n < 256 → IsSlot a → IsSlot b → slot_bytes m a ≡ slot_bytes n b → (m ≡ n) × (a ≡ b)
unfolding slot_bytes
slot_same m n a b below limit h k e =
    let fits = slot_fields_fit m a below h in
    let read = front-padded 60 (spelled (slot_fields m a)) (length-spelled (slot_fields m a) fits) in
    let same : slot_fields m a ≡ slot_fields n b = read_same 60 (slot_fields m a) (slot_fields n b) (slot_bytes m a) refl refl fits (slot_fields_fit n b limit k) read e in
    let number : m ≡ n = cc in
    let code : state_code a.state ≡ state_code b.state = cc in
    let by : breaker_of a.state ≡ breaker_of b.state = cc in
    let by_generation : breaker_generation_of a.state ≡ breaker_generation_of b.state = cc in
    let journal : journal_code a.journal ≡ journal_code b.journal = cc in
    let txn : txn_of a.journal ≡ txn_of b.journal = cc in
    let count : count_of a.journal ≡ count_of b.journal = cc in
    let generation : a.generation ≡ b.generation = cc in
    let host : a.host ≡ b.host = cc in
    let stamp : a.stamp ≡ b.stamp = cc in
    (number, same_slot a b (state_same a.state b.state code by by_generation) generation host stamp (journal_same a.journal b.journal journal txn count))

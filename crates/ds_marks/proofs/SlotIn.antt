-- The slot that is read of a sector is the one that it spells.
use Rattle.std.proofs.Common.{◌≡◌, ℕ, ◌+◌, ◌^◌, ◌<◌, ◌≤◌, Bool, true, false, cond, ◌&&◌, List, length, replicate, Option, Some, None, Decides, refl, ap, subst, ◌∙◌, arith}
use Rattle.std.specs.Prelude.{◌==◌, nat_le, nat_lt}
use Rattle.std.specs.Str.{bytes_eq}
use Rattle.std.proofs.lemmas.Slice.Eq.{bytes_eq-Decides}
use Rattle.ds_base.specs.Decoding.{IsDecoded}
use Rattle.ds_bytes.specs.Fields.{front, spelled, AllBelow, FieldsFit}
use Rattle.ds_bytes.proofs.Fronts.{front_none}
use Rattle.ds_bytes.proofs.Readings.{CanRead}
use Rattle.ds_marks.specs.Slot.{txn_of, IsOfState, IsOfJournal, IsSlot, slot_bytes}
use Rattle.ds_marks.specs.SlotIn.{parts_in, is_count, is_idle, fits_state, fits_journal, is_slot, spelled_by, slot_in}
use Rattle.ds_marks.specs.SlotParts.{part_fields, slot_of}
use Rattle.ds_marks.specs.declared.slot.Slot.{Slot}
use Rattle.ds_marks.specs.declared.slot.SlotState.{SlotState}
use Rattle.ds_marks.specs.declared.slot.SlotState.TheVariants.{Free, Live, Breaking}
use Rattle.ds_marks.specs.declared.slot.Journal.{Journal}
use Rattle.ds_marks.specs.declared.slot.Journal.TheVariants.{Idle, Committed}
use Rattle.ds_marks.proofs.Deciding.{first, second, both, decides_both, decides_as, decides_eq, decides_le, decides_lt, decides_count, decoded_same}
use Rattle.ds_marks.proofs.Pieces.{piece_size, piece_read, number_read}
use Rattle.ds_marks.proofs.Slots.{names_slot}

decides_idle : (j : Journal) → Decides (is_idle j) (j ≡ Idle)
decides_idle Idle = (λ p. refl, λ p. refl)
decides_idle (Committed txn count) = (λ p. absurd (cc), λ p. absurd (cc))

decides_state : (t : SlotState) (s : Slot) → Decides (fits_state t s) (IsOfState t s)
decides_state Free s =
    decides_as (fits_state Free s) (λ d. (d.0.0, d.0.1, d.1)) (λ d. ((d.0, d.1), d.2))
    (decides_both (bytes_eq s.host (replicate 16 0) && (s.stamp == 0)) (is_idle s.journal)
    (decides_both (bytes_eq s.host (replicate 16 0)) (s.stamp == 0) (bytes_eq-Decides s.host (replicate 16 0)) (decides_eq s.stamp 0))
    (decides_idle s.journal))
decides_state Live s = decides_count s.stamp
decides_state (Breaking by generation) s =
    decides_as (fits_state (Breaking by generation) s) (λ d. (d.0.0, (d.0.1, d.1.0, d.1.1))) (λ d. ((d.0, d.1.0), (d.1.1, d.1.2)))
    (decides_both (is_count s.stamp && nat_lt by 16) (is_count generation)
    (decides_both (is_count s.stamp) (nat_lt by 16) (decides_count s.stamp) (decides_lt by 16)) (decides_count generation))

-- a transaction's number and pairs, with the width of its number
abbrev FitsJournal : Journal → Type 0
FitsJournal j = IsOfJournal j × (txn_of j < 2 ^ 64)

decides_journal : (j : Journal) → Decides (fits_journal j) (FitsJournal j)
decides_journal Idle = (λ p. (tt, omega arith), λ p. refl)
decides_journal (Committed txn count) =
    decides_as (fits_journal (Committed txn count)) (λ d. ((d.0.0.0, d.0.1, d.1), d.0.0.1)) (λ d. (((d.0.0, d.1), d.0.1), d.0.2))
    (decides_both (nat_le 1 txn && nat_lt txn (2 ^ 64) && nat_le 1 count) (nat_le count 31)
    (decides_both (nat_le 1 txn && nat_lt txn (2 ^ 64)) (nat_le 1 count)
    (decides_both (nat_le 1 txn) (nat_lt txn (2 ^ 64)) (decides_le 1 txn) (decides_lt txn (2 ^ 64))) (decides_le 1 count))
    (decides_le count 31))

decides_slot : (s : Slot) → Decides (is_slot s) (IsSlot s)
decides_slot s =
    decides_as (is_slot s)
    (λ d. record {
      widths = record { host_size = d.0.0.0; txn_fits = d.1.1 };
      ranges = record { generation_from = d.0.0.1.0; generation_to = d.0.0.1.1; is_of_state = d.0.1; is_of_journal = d.1.0 };
    })
    (λ h. (
      ((h.widths.host_size, (h.ranges.generation_from, h.ranges.generation_to)), h.ranges.is_of_state),
      (h.ranges.is_of_journal, h.widths.txn_fits),
    ))
    (decides_both ((length s.host == 16) && is_count s.generation && fits_state s.state s) (fits_journal s.journal)
    (decides_both ((length s.host == 16) && is_count s.generation) (fits_state s.state s)
    (decides_both (length s.host == 16) (is_count s.generation) (decides_eq (length s.host) 16) (decides_count s.generation))
    (decides_state s.state s)) (decides_journal s.journal))

-- the fields that are read of 512 bytes
record AreParts (bytes : List ℕ) : Type 0 where
  read : front 60 bytes ≡ spelled (part_fields (parts_in bytes))
  fits : FieldsFit (part_fields (parts_in bytes))

are_parts : (bytes : List ℕ) → length bytes ≡ 512 → AllBelow 256 bytes → AreParts bytes
are_parts bytes len below =
    let can : (at n : ℕ) → at + n ≤ 512 → CanRead at n bytes = λ at n h. record { within = omega arith; are_bytes = below } in
    let state = number_read 4 1 bytes (can 4 1 (omega arith)) in
    let journal = number_read 5 1 bytes (can 5 1 (omega arith)) in
    let breaker = number_read 6 1 bytes (can 6 1 (omega arith)) in
    let count = number_read 7 1 bytes (can 7 1 (omega arith)) in
    let generation = number_read 8 8 bytes (can 8 8 (omega arith)) in
    let stamp = number_read 32 8 bytes (can 32 8 (omega arith)) in
    let txn = number_read 40 8 bytes (can 40 8 (omega arith)) in
    let by_generation = number_read 48 8 bytes (can 48 8 (omega arith)) in
    let number = number_read 56 4 bytes (can 56 4 (omega arith)) in
    record {
      read = rw (number.read, by_generation.read, txn.read, stamp.read, piece_read 16 16 bytes, generation.read, count.read, breaker.read, journal.read, state.read, piece_read 0 4 bytes, front_none bytes) refl;
      fits = (piece_size 0 4 bytes (can 0 4 (omega arith)), (state.below, (journal.below, (breaker.below, (count.below, (generation.below, (piece_size 16 16 bytes (can 16 16 (omega arith)), (stamp.below, (txn.below, (by_generation.below, (number.below, tt)))))))))));
    }

-- the test of a candidate
spelled_is : (number : ℕ) (bytes : List ℕ) (s t : Slot) → spelled_by number bytes (Some s) ≡ Some t → (s ≡ t) × ((is_slot s && bytes_eq bytes (slot_bytes number s)) ≡ true)
spelled_is number bytes s t e = tested (is_slot s && bytes_eq bytes (slot_bytes number s)) e where
  tested : (b : Bool) → cond b (Some s) None ≡ Some t → (s ≡ t) × (b ≡ true)
  tested true e = (cc, refl)
  tested false e = absurd (cc)

found_is : (number : ℕ) (bytes : List ℕ) (found : Option Slot) (t : Slot) → spelled_by number bytes found ≡ Some t → IsSlot t × (bytes ≡ slot_bytes number t)
found_is number bytes None t e = absurd (cc)
found_is number bytes (Some s) t e =
    let tested = spelled_is number bytes s t e in
    let slot : IsSlot s = (decides_slot s).0 (first (is_slot s) _ tested.1) in
    let same : bytes ≡ slot_bytes number s = (bytes_eq-Decides bytes (slot_bytes number s)).0 (second (is_slot s) _ tested.1) in
    subst (λ (u : Slot). IsSlot u × (bytes ≡ slot_bytes number u)) tested.0 (slot, same)

pub slot_in-IsDecoded : (number : ℕ) (bytes : List ℕ) → number < 256 → length bytes ≡ 512 → AllBelow 256 bytes → IsDecoded (slot_in number bytes) (λ s. IsSlot s × (bytes ≡ slot_bytes number s))
unfolding slot_in
slot_in-IsDecoded number bytes small len below t =
    let parts = are_parts bytes len below in (
      found_is number bytes (slot_of (parts_in bytes)) t,
      λ d.
          let named : slot_of (parts_in bytes) ≡ Some t = names_slot number bytes (parts_in bytes) t small parts.fits d.0 parts.read d.1 in
          let passes : (is_slot t && bytes_eq bytes (slot_bytes number t)) ≡ true = both (is_slot t) _ ((decides_slot t).1 d.0) ((bytes_eq-Decides bytes (slot_bytes number t)).1 d.1) in
          ap (spelled_by number bytes) named ∙ ap (λ (b : Bool). cond b (Some t) None) passes,
    )

-- a decoder's answer is the slot that the sector spells
pub slot_in-only : (number : ℕ) (bytes : List ℕ) (r : Option Slot) → number < 256 → length bytes ≡ 512 → AllBelow 256 bytes → IsDecoded r (λ s. IsSlot s × (bytes ≡ slot_bytes number s)) → r ≡ slot_in number bytes
slot_in-only number bytes r small len below decoded =
    decoded_same r (slot_in number bytes) (λ s. IsSlot s × (bytes ≡ slot_bytes number s)) decoded (slot_in-IsDecoded number bytes small len below)

-- what is read of a sector is a slot, and the sector spells it
pub slot_in-is : (number : ℕ) (bytes : List ℕ) (s : Slot) → slot_in number bytes ≡ Some s → IsSlot s × (bytes ≡ slot_bytes number s)
unfolding slot_in
slot_in-is number bytes s e = found_is number bytes (slot_of (parts_in bytes)) s e

stamp_below : (t : SlotState) (s : Slot) → IsOfState t s → s.stamp < 18446744073709551616
stamp_below Free s h = let none : s.stamp ≡ 0 = h.1 in omega arith
stamp_below Live s h = let most : s.stamp ≤ 2 ^ 62 = h.1 in omega arith
stamp_below (Breaking by generation) s h = let most : s.stamp ≤ 2 ^ 62 = h.0.1 in omega arith

pub slot_in-stamp : (number : ℕ) (bytes : List ℕ) (s : Slot) → slot_in number bytes ≡ Some s → s.stamp < 18446744073709551616
slot_in-stamp number bytes s e = stamp_below s.state s (slot_in-is number bytes s e).0.ranges.is_of_state

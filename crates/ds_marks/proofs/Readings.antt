-- Every 512 bytes have a reading as a slot, and as a header.
use Rattle.std.proofs.Common.{◌≡◌, ℕ, ◌+◌, ◌^◌, ◌<◌, ◌≤◌, inl, inr, List, length, replicate, Option, Some, None, refl, arith}
use Rattle.ds_base.specs.Decoding.{IsDecoded}
use Rattle.ds_bytes.specs.Fields.{front, spelled, AllBelow, FieldsFit}
use Rattle.ds_bytes.proofs.Fronts.{front_none}
use Rattle.ds_bytes.proofs.Readings.{Decided, decided_eq, decided_le, decided_lt, decided_bytes, decided_both, decided_same, reading_of, CanRead, number_at, piece_at}
use Rattle.ds_marks.specs.Slot.{txn_of, IsBreaker, IsOfState, IsOfJournal, HasWidths, InRanges, IsSlot, slot_bytes}
use Rattle.ds_marks.specs.SlotParts as slot_parts
use Rattle.ds_marks.specs.Header as headers
use Rattle.ds_marks.specs.HeaderParts as header_parts
use Rattle.ds_marks.specs.declared.slot.Slot.{Slot}
use Rattle.ds_marks.specs.declared.slot.SlotState.{SlotState}
use Rattle.ds_marks.specs.declared.slot.SlotState.TheVariants.{Free, Live, Breaking}
use Rattle.ds_marks.specs.declared.slot.Journal.{Journal}
use Rattle.ds_marks.specs.declared.slot.Journal.TheVariants.{Idle, Committed}
use Rattle.ds_marks.specs.declared.slot_parts.SlotParts.{SlotParts}
use Rattle.ds_marks.specs.declared.header.Header.{Header}
use Rattle.ds_marks.specs.declared.header.Owner.{Owner}
use Rattle.ds_marks.specs.declared.header_parts.HeaderParts.{HeaderParts}
use Rattle.ds_marks.proofs.Headers.{names_header}
use Rattle.ds_marks.proofs.Slots.{names_slot}

-- what is read of a sector as a slot, field by field
record SlotPartsOf (bytes : List ℕ) : Type 0 where
  parts : SlotParts
  read : front 60 bytes ≡ spelled (slot_parts.part_fields parts)
  fits : FieldsFit (slot_parts.part_fields parts)

slot_parts_of : (bytes : List ℕ) → length bytes ≡ 512 → AllBelow 256 bytes → SlotPartsOf bytes
slot_parts_of bytes len below =
    let can : (at n : ℕ) → at + n ≤ 512 → CanRead at n bytes = λ at n h. record { within = omega arith; are_bytes = below } in
    let magic = piece_at 0 4 bytes (can 0 4 (omega arith)) in
    let state = number_at 4 1 bytes (can 4 1 (omega arith)) in
    let journal = number_at 5 1 bytes (can 5 1 (omega arith)) in
    let breaker = number_at 6 1 bytes (can 6 1 (omega arith)) in
    let count = number_at 7 1 bytes (can 7 1 (omega arith)) in
    let generation = number_at 8 8 bytes (can 8 8 (omega arith)) in
    let host = piece_at 16 16 bytes (can 16 16 (omega arith)) in
    let stamp = number_at 32 8 bytes (can 32 8 (omega arith)) in
    let txn = number_at 40 8 bytes (can 40 8 (omega arith)) in
    let by_generation = number_at 48 8 bytes (can 48 8 (omega arith)) in
    let number = number_at 56 4 bytes (can 56 4 (omega arith)) in
    record {
      parts = record {
        magic = magic.items;
        state = state.value;
        journal = journal.value;
        breaker = breaker.value;
        count = count.value;
        generation = generation.value;
        host = host.items;
        stamp = stamp.value;
        txn = txn.value;
        breaker_generation = by_generation.value;
        number = number.value;
      };
      read = rw (number.read, by_generation.read, txn.read, stamp.read, host.read, generation.read, count.read, breaker.read, journal.read, state.read, magic.read, front_none bytes) refl;
      fits = (magic.size, (state.below, (journal.below, (breaker.below, (count.below, (generation.below, (host.size, (stamp.below, (txn.below, (by_generation.below, (number.below, tt)))))))))));
    }

decided_idle : (j : Journal) → Decided (j ≡ Idle)
decided_idle Idle = inl refl
decided_idle (Committed txn count) = inr (λ e. absurd (cc))

decided_from_1 : (n : ℕ) → Decided ((1 ≤ n) × (n ≤ 2 ^ 62))
decided_from_1 n = decided_both (decided_le 1 n) (decided_le n (2 ^ 62))

decided_breaker : (by generation : ℕ) → Decided (IsBreaker by generation)
decided_breaker by generation =
    decided_same (λ d. (d.0, d.1.0, d.1.1)) (λ d. (d.0, (d.1, d.2))) (decided_both (decided_lt by 16) (decided_from_1 generation))

decided_state : (t : SlotState) (s : Slot) → Decided (IsOfState t s)
decided_state Free s =
    decided_same (λ d. (d.0, d.1.0, d.1.1)) (λ d. (d.0, (d.1, d.2)))
    (decided_both (decided_bytes s.host (replicate 16 0)) (decided_both (decided_eq s.stamp 0) (decided_idle s.journal)))
decided_state Live s = decided_from_1 s.stamp
decided_state (Breaking by generation) s = decided_both (decided_from_1 s.stamp) (decided_breaker by generation)

decided_journal : (j : Journal) → Decided (IsOfJournal j)
decided_journal Idle = inl tt
decided_journal (Committed txn count) =
    decided_same (λ d. (d.0, d.1.0, d.1.1)) (λ d. (d.0, (d.1, d.2)))
    (decided_both (decided_le 1 txn) (decided_both (decided_le 1 count) (decided_le count 31)))

decided_slot_widths : (s : Slot) → Decided (HasWidths s)
decided_slot_widths s =
    decided_same (λ d. record { host_size = d.0; txn_fits = d.1 }) (λ h. (h.host_size, h.txn_fits))
    (decided_both (decided_eq (length s.host) 16) (decided_lt (txn_of s.journal) (2 ^ 64)))

decided_slot_ranges : (s : Slot) → Decided (InRanges s)
decided_slot_ranges s =
    decided_same
    (λ d. record { generation_from = d.0; generation_to = d.1.0; is_of_state = d.1.1.0; is_of_journal = d.1.1.1 })
    (λ h. (h.generation_from, (h.generation_to, (h.is_of_state, h.is_of_journal))))
    (decided_both (decided_le 1 s.generation) (decided_both (decided_le s.generation (2 ^ 62)) (decided_both (decided_state s.state s) (decided_journal s.journal))))

decided_slot : (s : Slot) → Decided (IsSlot s)
decided_slot s =
    decided_same (λ d. record { widths = d.0; ranges = d.1 }) (λ h. (h.widths, h.ranges)) (decided_both (decided_slot_widths s) (decided_slot_ranges s))

pub slot_reading : (number : ℕ) (bytes : List ℕ) → number < 256 → length bytes ≡ 512 → AllBelow 256 bytes → (r : Option Slot) × IsDecoded r (λ s. IsSlot s × (bytes ≡ slot_bytes number s))
slot_reading number bytes small len below =
    let read = slot_parts_of bytes len below in
    reading_of (slot_parts.slot_of read.parts) (λ s. IsSlot s × (bytes ≡ slot_bytes number s))
    (λ s d. names_slot number bytes read.parts s small read.fits d.0 read.read d.1)
    (λ s. decided_both (decided_slot s) (decided_bytes bytes (slot_bytes number s)))

-- what is read of a sector as a header, field by field
record HeaderPartsOf (bytes : List ℕ) : Type 0 where
  parts : HeaderParts
  read : front 48 bytes ≡ spelled (header_parts.part_fields parts)
  fits : FieldsFit (header_parts.part_fields parts)

header_parts_of : (bytes : List ℕ) → length bytes ≡ 512 → AllBelow 256 bytes → HeaderPartsOf bytes
header_parts_of bytes len below =
    let can : (at n : ℕ) → at + n ≤ 512 → CanRead at n bytes = λ at n h. record { within = omega arith; are_bytes = below } in
    let magic = piece_at 0 4 bytes (can 0 4 (omega arith)) in
    let owned = number_at 4 1 bytes (can 4 1 (omega arith)) in
    let slot = number_at 5 1 bytes (can 5 1 (omega arith)) in
    let gap = piece_at 6 2 bytes (can 6 2 (omega arith)) in
    let object = number_at 8 4 bytes (can 8 4 (omega arith)) in
    let hole = piece_at 12 4 bytes (can 12 4 (omega arith)) in
    let generation = number_at 16 8 bytes (can 16 8 (omega arith)) in
    let by = number_at 24 8 bytes (can 24 8 (omega arith)) in
    let host = piece_at 32 16 bytes (can 32 16 (omega arith)) in
    record {
      parts = record {
        magic = magic.items;
        owned = owned.value;
        slot = slot.value;
        gap = gap.items;
        object = object.value;
        hole = hole.items;
        generation = generation.value;
        owner_generation = by.value;
        host = host.items;
      };
      read = rw (host.read, by.read, generation.read, hole.read, object.read, gap.read, slot.read, owned.read, magic.read, front_none bytes) refl;
      fits = (magic.size, (owned.below, (slot.below, (gap.size, (object.below, (hole.size, (generation.below, (by.below, (host.size, tt)))))))));
    }

decided_owner : (o : Option Owner) → Decided (headers.IsOwner o)
decided_owner None = inl tt
decided_owner (Some o) = decided_from_1 o.generation

decided_owner_widths : (o : Option Owner) → Decided (headers.HasOwnerWidths o)
decided_owner_widths None = inl tt
decided_owner_widths (Some o) = decided_both (decided_lt o.slot 256) (decided_eq (length o.host) 16)

decided_header : (h : Header) → Decided (headers.IsHeader h)
decided_header h =
    decided_same
    (λ d. record { widths = record { object_fits = d.0.0; owner_fits = d.0.1 }; ranges = record { generation_to = d.1.0; is_owner = d.1.1 } })
    (λ is. ((is.widths.object_fits, is.widths.owner_fits), (is.ranges.generation_to, is.ranges.is_owner)))
    (decided_both (decided_both (decided_lt h.object (2 ^ 32)) (decided_owner_widths h.owner)) (decided_both (decided_le h.generation (2 ^ 62)) (decided_owner h.owner)))

pub header_reading : (object : ℕ) (bytes : List ℕ) → length bytes ≡ 512 → AllBelow 256 bytes → (r : Option Header) × IsDecoded r (λ h. (h.object ≡ object) × headers.IsHeader h × (bytes ≡ headers.header_bytes h))
header_reading object bytes len below =
    let read = header_parts_of bytes len below in
    reading_of (header_parts.header_of read.parts) (λ h. (h.object ≡ object) × headers.IsHeader h × (bytes ≡ headers.header_bytes h))
    (λ h d. names_header bytes read.parts h read.fits d.1 read.read d.2)
    (λ h. decided_same (λ d. (d.0, d.1.0, d.1.1)) (λ d. (d.0, (d.1, d.2)))
    (decided_both (decided_eq h.object object) (decided_both (decided_header h) (decided_bytes bytes (headers.header_bytes h)))))

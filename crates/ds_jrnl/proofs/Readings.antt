-- Every 512 bytes have a reading as an index.
use Rattle.std.proofs.Common.{◌≡◌, ℕ, zero, suc, ◌+◌, ◌^◌, ◌<◌, ◌≤◌, inl, List, [], ◌∷◌, length, slice_index, Option, Some, refl, ap, arith}
use Rattle.std.specs.List.Sorted.{IsStrictlyIncreasing}
use Rattle.ds_base.specs.Decoding.{IsDecoded}
use Rattle.ds_bytes.specs.Fields.{front, spelled, AllBelow, FieldsFit}
use Rattle.ds_bytes.proofs.Fronts.{front_none}
use Rattle.ds_bytes.proofs.Readings.{Decided, decided_le, decided_lt, decided_bytes, decided_below, decided_both, decided_same, reading_of, CanRead, number_at, numbers_at, piece_at}
use Rattle.ds_jrnl.specs.Index.{HasWidths, InRanges, IsIndex, index_bytes}
use Rattle.ds_jrnl.specs.IndexParts.{part_fields, index_of}
use Rattle.ds_jrnl.specs.declared.index.Index.{Index}
use Rattle.ds_jrnl.specs.declared.index_parts.IndexParts.{IndexParts}
use Rattle.ds_jrnl.proofs.Indexes.{names_index}

-- what is read of a sector, field by field
record PartsOf (bytes : List ℕ) : Type 0 where
  parts : IndexParts
  read : front 148 bytes ≡ spelled (part_fields parts)
  fits : FieldsFit (part_fields parts)

parts_of : (bytes : List ℕ) → length bytes ≡ 512 → AllBelow 256 bytes → PartsOf bytes
parts_of bytes len below =
    let can : (at n : ℕ) → at + n ≤ 512 → CanRead at n bytes = λ at n h. record { within = omega arith; are_bytes = below } in
    let magic = piece_at 0 4 bytes (can 0 4 (omega arith)) in
    let slot = number_at 4 1 bytes (can 4 1 (omega arith)) in
    let count = number_at 5 1 bytes (can 5 1 (omega arith)) in
    let gap = piece_at 6 2 bytes (can 6 2 (omega arith)) in
    let generation = number_at 8 8 bytes (can 8 8 (omega arith)) in
    let txn = number_at 16 8 bytes (can 16 8 (omega arith)) in
    let words = numbers_at 24 4 31 bytes (omega arith) (can 24 124 (omega arith)) in
    record {
      parts = record {
        magic = magic.items;
        slot = slot.value;
        count = count.value;
        gap = gap.items;
        generation = generation.value;
        txn = txn.value;
        words = words.values;
      };
      read = rw (words.read, txn.read, generation.read, gap.read, count.read, slot.read, magic.read, front_none bytes) refl;
      fits = (magic.size, (slot.below, (count.below, (gap.size, (generation.below, (txn.below, ((words.count, words.below), tt)))))));
    }

rising_tail : (x y : ℕ) (xs : List ℕ) → IsStrictlyIncreasing (x ∷ y ∷ xs) → (x < y) × IsStrictlyIncreasing (y ∷ xs)
rising_tail x y xs h = (
  h 0 (omega arith),
  λ k l.
      let e : suc k + 1 ≡ suc (k + 1) = omega arith in
      let below : slice_index (y ∷ xs) k < slice_index (x ∷ y ∷ xs) (suc k + 1) = h (suc k) (omega arith) in
      rw e at below,
)

rising_more : (x y : ℕ) (xs : List ℕ) → x < y → IsStrictlyIncreasing (y ∷ xs) → IsStrictlyIncreasing (x ∷ y ∷ xs)
rising_more x y xs below h zero l = below
rising_more x y xs below h (suc k) l =
    let e : suc k + 1 ≡ suc (k + 1) = omega arith in
    rw e (h k (omega arith))

decided_rising : (xs : List ℕ) → Decided (IsStrictlyIncreasing xs)
decided_rising [] = inl (λ k l. absurd (omega arith))
decided_rising (x ∷ []) = inl (λ k l. absurd (omega arith))
decided_rising (x ∷ y ∷ xs) =
    decided_same (λ d. rising_more x y xs d.0 d.1) (rising_tail x y xs) (decided_both (decided_lt x y) (decided_rising (y ∷ xs)))

decided_widths : (x : Index) → Decided (HasWidths x)
decided_widths x =
    decided_same
    (λ d. record { slot_fits = d.0; generation_fits = d.1.0; txn_fits = d.1.1.0; targets_fit = d.1.1.1 })
    (λ h. (h.slot_fits, (h.generation_fits, (h.txn_fits, h.targets_fit))))
    (decided_both (decided_lt x.slot (2 ^ 8)) (decided_both (decided_lt x.generation (2 ^ 64)) (decided_both (decided_lt x.txn (2 ^ 64)) (decided_below (2 ^ 32) x.targets.items (omega arith)))))

decided_ranges : (x : Index) → Decided (InRanges x)
decided_ranges x =
    decided_same
    (λ d. record { some = d.0; most = d.1.0; rising = d.1.1 })
    (λ h. (h.some, (h.most, h.rising)))
    (decided_both (decided_le 1 (length x.targets.items)) (decided_both (decided_le (length x.targets.items) 31) (decided_rising x.targets.items)))

decided_index : (x : Index) → Decided (IsIndex x)
decided_index x =
    decided_same (λ d. record { widths = d.0; ranges = d.1 }) (λ h. (h.widths, h.ranges)) (decided_both (decided_widths x) (decided_ranges x))

pub index_reading : (bytes : List ℕ) → length bytes ≡ 512 → AllBelow 256 bytes → (r : Option Index) × IsDecoded r (λ x. IsIndex x × (bytes ≡ index_bytes x))
index_reading bytes len below =
    let read = parts_of bytes len below in
    reading_of (Some (index_of read.parts)) (λ x. IsIndex x × (bytes ≡ index_bytes x))
    (λ x d. ap Some (names_index bytes read.parts x read.fits d.0 read.read d.1).same)
    (λ x. decided_both (decided_index x) (decided_bytes bytes (index_bytes x)))

-- The header that is read of a sector is the one that it spells.
use Rattle.std.proofs.Common.{◌≡◌, ℕ, ◌+◌, ◌^◌, ◌≤◌, Bool, true, false, cond, ◌&&◌, List, length, Option, Some, None, Decides, refl, sym, ap, subst, ◌∙◌, arith}
use Rattle.std.specs.Prelude.{◌==◌, nat_le, nat_lt}
use Rattle.std.specs.Str.{bytes_eq}
use Rattle.std.proofs.lemmas.Slice.Eq.{bytes_eq-Decides}
use Rattle.ds_base.specs.Decoding.{IsDecoded}
use Rattle.ds_bytes.specs.Fields.{front, spelled, AllBelow, FieldsFit}
use Rattle.ds_bytes.proofs.Fronts.{front_none}
use Rattle.ds_bytes.proofs.Readings.{CanRead}
use Rattle.ds_marks.specs.Header.{IsOwner, HasOwnerWidths, IsHeader, header_bytes}
use Rattle.ds_marks.specs.HeaderParts.{part_fields, header_of}
use Rattle.ds_marks.specs.declared.header.Header.{Header}
use Rattle.ds_marks.specs.declared.header.Owner.{Owner}
use Rattle.ds_marks.proofs.Headers.{names_header}
use Rattle.ds_marks.specs.HeaderIn.{header_parts_in, is_owner, is_header, header_spelled_by, header_in, header_if_of}
use Rattle.ds_marks.specs.SlotIn.{is_count}
use Rattle.ds_marks.proofs.Deciding.{first, second, both, decides_both, decides_as, decides_eq, decides_le, decides_lt, decides_count, decoded_same}
use Rattle.ds_marks.proofs.Pieces.{piece_size, piece_read, number_read}

decides_owner : (o : Option Owner) → Decides (is_owner o) (HasOwnerWidths o × IsOwner o)
decides_owner None = (λ p. (tt, tt), λ p. refl)
decides_owner (Some o) =
    decides_as (is_owner (Some o)) (λ d. ((d.0.0, d.0.1), (d.1.0, d.1.1))) (λ d. ((d.0.0, d.0.1), (d.1.0, d.1.1)))
    (decides_both (nat_lt o.slot 256 && (length o.host == 16)) (is_count o.generation)
    (decides_both (nat_lt o.slot 256) (length o.host == 16) (decides_lt o.slot 256) (decides_eq (length o.host) 16)) (decides_count o.generation))

decides_header : (h : Header) → Decides (is_header h) (IsHeader h)
decides_header h =
    decides_as (is_header h)
    (λ d. record { widths = record { object_fits = d.0.0; owner_fits = d.1.0 }; ranges = record { generation_to = d.0.1; is_owner = d.1.1 } })
    (λ i. ((i.widths.object_fits, i.ranges.generation_to), (i.widths.owner_fits, i.ranges.is_owner)))
    (decides_both (nat_lt h.object (2 ^ 32) && nat_le h.generation (2 ^ 62)) (is_owner h.owner)
    (decides_both (nat_lt h.object (2 ^ 32)) (nat_le h.generation (2 ^ 62)) (decides_lt h.object (2 ^ 32)) (decides_le h.generation (2 ^ 62))) (decides_owner h.owner))

-- the fields that are read of 512 bytes
record AreParts (bytes : List ℕ) : Type 0 where
  read : front 48 bytes ≡ spelled (part_fields (header_parts_in bytes))
  fits : FieldsFit (part_fields (header_parts_in bytes))

are_parts : (bytes : List ℕ) → length bytes ≡ 512 → AllBelow 256 bytes → AreParts bytes
are_parts bytes len below =
    let can : (at n : ℕ) → at + n ≤ 512 → CanRead at n bytes = λ at n h. record { within = omega arith; are_bytes = below } in
    let owned = number_read 4 1 bytes (can 4 1 (omega arith)) in
    let slot = number_read 5 1 bytes (can 5 1 (omega arith)) in
    let object = number_read 8 4 bytes (can 8 4 (omega arith)) in
    let generation = number_read 16 8 bytes (can 16 8 (omega arith)) in
    let by = number_read 24 8 bytes (can 24 8 (omega arith)) in
    record {
      read = rw (piece_read 32 16 bytes, by.read, generation.read, piece_read 12 4 bytes, object.read, piece_read 6 2 bytes, slot.read, owned.read, piece_read 0 4 bytes, front_none bytes) refl;
      fits = (piece_size 0 4 bytes (can 0 4 (omega arith)), (owned.below, (slot.below, (piece_size 6 2 bytes (can 6 2 (omega arith)), (object.below, (piece_size 12 4 bytes (can 12 4 (omega arith)), (generation.below, (by.below, (piece_size 32 16 bytes (can 32 16 (omega arith)), tt)))))))));
    }

-- the test of a candidate
spelled_is : (bytes : List ℕ) (s t : Header) → header_spelled_by bytes (Some s) ≡ Some t → (s ≡ t) × ((is_header s && bytes_eq bytes (header_bytes s)) ≡ true)
spelled_is bytes s t e = tested (is_header s && bytes_eq bytes (header_bytes s)) e
  where
    tested : (b : Bool) → cond b (Some s) None ≡ Some t → (s ≡ t) × (b ≡ true)
    tested true e = (cc, refl)
    tested false e = absurd (cc)

found_is : (bytes : List ℕ) (found : Option Header) (t : Header) → header_spelled_by bytes found ≡ Some t → IsHeader t × (bytes ≡ header_bytes t)
found_is bytes None t e = absurd (cc)
found_is bytes (Some s) t e =
    let tested = spelled_is bytes s t e in
    let header : IsHeader s = (decides_header s).0 (first (is_header s) _ tested.1) in
    let same : bytes ≡ header_bytes s = (bytes_eq-Decides bytes (header_bytes s)).0 (second (is_header s) _ tested.1) in
    subst (λ (u : Header). IsHeader u × (bytes ≡ header_bytes u)) tested.0 (header, same)

-- what is read of a sector is a header, and the sector spells it
pub header_in-is : (bytes : List ℕ) (h : Header) → header_in bytes ≡ Some h → IsHeader h × (bytes ≡ header_bytes h)
unfolding header_in
header_in-is bytes h e = found_is bytes (header_of (header_parts_in bytes)) h e

pub header_in-IsDecoded : (bytes : List ℕ) → length bytes ≡ 512 → AllBelow 256 bytes → IsDecoded (header_in bytes) (λ h. IsHeader h × (bytes ≡ header_bytes h))
unfolding header_in
header_in-IsDecoded bytes len below t =
    let parts = are_parts bytes len below in (
      found_is bytes (header_of (header_parts_in bytes)) t,
      λ d.
          let named : header_of (header_parts_in bytes) ≡ Some t = names_header bytes (header_parts_in bytes) t parts.fits d.0 parts.read d.1 in
          let passes : (is_header t && bytes_eq bytes (header_bytes t)) ≡ true = both (is_header t) _ ((decides_header t).1 d.0) ((bytes_eq-Decides bytes (header_bytes t)).1 d.1) in
          ap (header_spelled_by bytes) named ∙ ap (λ (b : Bool). cond b (Some t) None) passes,
    )

-- the header of an object is decoded by its number
pub header_if_of-IsDecoded : (object : ℕ) (bytes : List ℕ) (r : Option Header) → IsDecoded r (λ h. IsHeader h × (bytes ≡ header_bytes h))
    → IsDecoded (header_if_of object r) (λ h. (h.object ≡ object) × IsHeader h × (bytes ≡ header_bytes h))
header_if_of-IsDecoded object bytes None decoded t = (λ e. absurd (cc), λ d. (decoded t).1 (d.1, d.2))
header_if_of-IsDecoded object bytes (Some h) decoded t = (
  λ e. let found = picked (h.object == object) e in let is = (decoded t).0 (ap Some found.0) in (subst (λ (x : Header). x.object ≡ object) found.0 ((decides_eq h.object object).0 found.1), is.0, is.1),
  λ d.
      let same : Some h ≡ Some t = (decoded t).1 (d.1, d.2) in
      let of : h.object ≡ object = let one : h ≡ t = cc in subst (λ (x : Header). x.object ≡ object) (sym one) d.0 in
      ap (λ (b : Bool). cond b (Some h) None) ((decides_eq h.object object).1 of) ∙ same,
)
  where
    picked : (b : Bool) → cond b (Some h) None ≡ Some t → (h ≡ t) × (b ≡ true)
    picked true e = (cc, refl)
    picked false e = absurd (cc)

-- a decoder's answer is the header that the sector spells, where it is that of the object
pub header_in-only : (object : ℕ) (bytes : List ℕ) (r : Option Header) → length bytes ≡ 512 → AllBelow 256 bytes
    → IsDecoded r (λ h. (h.object ≡ object) × IsHeader h × (bytes ≡ header_bytes h)) → r ≡ header_if_of object (header_in bytes)
header_in-only object bytes r len below decoded =
    decoded_same r (header_if_of object (header_in bytes)) (λ h. (h.object ≡ object) × IsHeader h × (bytes ≡ header_bytes h)) decoded
    (header_if_of-IsDecoded object bytes (header_in bytes) (header_in-IsDecoded bytes len below))

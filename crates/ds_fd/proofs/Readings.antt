-- Every 512 bytes have a reading as a body.
use Rattle.std.proofs.Common.{◌≡◌, ℕ, ◌+◌, ◌-◌, ◌^◌, ◌≤◌, List, ◌++◌, length, drop, Option, refl, arith}
use Rattle.ds_base.specs.Decoding.{IsDecoded}
use Rattle.ds_bytes.specs.Fields.{zeros, front, spelled, AllBelow, FieldsFit}
use Rattle.ds_bytes.proofs.Fronts.{front_none}
use Rattle.ds_bytes.proofs.Readings.{Decided, decided_eq, decided_le, decided_lt, decided_bytes, decided_below, decided_both, decided_same, reading_of, CanRead, number_at, numbers_at, piece_at}
use Rattle.ds_fd.specs.Body.{links_of, most_count, least_birth, addresses_used, HasWidths, InRanges, IsBody, body_bytes}
use Rattle.ds_fd.specs.BodyParts.{part_fields, body_of}
use Rattle.ds_fd.specs.declared.body.Body.{Body}
use Rattle.ds_fd.specs.declared.parts.BodyParts.{BodyParts}
use Rattle.ds_fd.proofs.Named.{names_body}

-- what is read of a sector, field by field
record PartsOf (bytes : List ℕ) : Type 0 where
  parts : BodyParts
  read : front 416 bytes ≡ spelled (part_fields parts)
  fits : FieldsFit (part_fields parts)

chained : (bytes a b c d e f g h i : List ℕ) → front 4 bytes ≡ front 0 bytes ++ a → front 5 bytes ≡ front 4 bytes ++ b → front 8 bytes ≡ front 5 bytes ++ c → front 12 bytes ≡ front 8 bytes ++ d → front 16 bytes ≡ front 12 bytes ++ e → front 24 bytes ≡ front 16 bytes ++ f → front 28 bytes ≡ front 24 bytes ++ g → front 32 bytes ≡ front 28 bytes ++ h → front 416 bytes ≡ front 32 bytes ++ i → front 416 bytes ≡ a ++ b ++ c ++ d ++ e ++ f ++ g ++ h ++ i
chained bytes a b c d e f g h i p q r s t u v w x = rw (x, w, v, u, t, s, r, q, p, front_none bytes) refl

parts_of : (bytes : List ℕ) → length bytes ≡ 512 → AllBelow 256 bytes → PartsOf bytes
parts_of bytes len below =
    let can : (at n : ℕ) → at + n ≤ 512 → CanRead at n bytes = λ at n h. record { within = omega arith; are_bytes = below } in
    let magic = piece_at 0 4 bytes (can 0 4 (omega arith)) in
    let kind = number_at 4 1 bytes (can 4 1 (omega arith)) in
    let gap = piece_at 5 3 bytes (can 5 3 (omega arith)) in
    let object = number_at 8 4 bytes (can 8 4 (omega arith)) in
    let links = number_at 12 4 bytes (can 12 4 (omega arith)) in
    let birth = number_at 16 8 bytes (can 16 8 (omega arith)) in
    let count = number_at 24 4 bytes (can 24 4 (omega arith)) in
    let hole = piece_at 28 4 bytes (can 28 4 (omega arith)) in
    let addresses = numbers_at 32 4 96 bytes (omega arith) (can 32 384 (omega arith)) in
    record {
      parts = record {
        magic = magic.items;
        kind = kind.value;
        gap = gap.items;
        object = object.value;
        links = links.value;
        birth = birth.value;
        count = count.value;
        hole = hole.items;
        addresses = addresses.values;
      };
      read = chained bytes _ _ _ _ _ _ _ _ _ magic.read kind.read gap.read object.read links.read birth.read count.read hole.read addresses.read;
      fits = (magic.size, (kind.below, (gap.size, (object.below, (links.below, (birth.below, (count.below, (hole.size, ((addresses.count, addresses.below), tt)))))))));
    }

decided_widths : (b : Body) → Decided (HasWidths b)
decided_widths b =
    decided_same
    (λ d. record { object_fits = d.0; links_fit = d.1.0; birth_fits = d.1.1.0; count_fits = d.1.1.1.0; address_count = d.1.1.1.1.0; addresses_fit = d.1.1.1.1.1 })
    (λ h. (h.object_fits, (h.links_fit, (h.birth_fits, (h.count_fits, (h.address_count, h.addresses_fit))))))
    (decided_both (decided_lt b.object (2 ^ 32)) (decided_both (decided_lt b.links (2 ^ 32)) (decided_both (decided_lt b.birth (2 ^ 64))
    (decided_both (decided_lt b.count (2 ^ 32)) (decided_both (decided_eq (length b.addresses) 96) (decided_below (2 ^ 32) b.addresses (omega arith)))))))

decided_ranges : (b : Body) → Decided (InRanges b)
decided_ranges b =
    let used : ℕ = addresses_used b.kind b.count in
    decided_same
    (λ d. record { links_are = d.0; count_to = d.1.0; birth_from = d.1.1.0; birth_to = d.1.1.1.0; rest_is_zero = d.1.1.1.1 })
    (λ h. (h.links_are, (h.count_to, (h.birth_from, (h.birth_to, h.rest_is_zero)))))
    (decided_both (decided_eq b.links (links_of b.kind)) (decided_both (decided_le b.count (most_count b.kind)) (decided_both (decided_le (least_birth b.kind) b.birth)
    (decided_both (decided_le b.birth (2 ^ 62)) (decided_bytes (drop used b.addresses) (zeros (96 - used)))))))

decided_body : (b : Body) → Decided (IsBody b)
decided_body b =
    decided_same (λ d. record { widths = d.0; ranges = d.1 }) (λ h. (h.widths, h.ranges)) (decided_both (decided_widths b) (decided_ranges b))

pub body_reading : (object : ℕ) (bytes : List ℕ) → length bytes ≡ 512 → AllBelow 256 bytes → (r : Option Body) × IsDecoded r (λ b. (b.object ≡ object) × IsBody b × (bytes ≡ body_bytes b))
body_reading object bytes len below =
    let read = parts_of bytes len below in
    reading_of (body_of read.parts) (λ b. (b.object ≡ object) × IsBody b × (bytes ≡ body_bytes b))
    (λ b d. names_body bytes read.parts b read.fits d.1.widths read.read d.2)
    (λ b. decided_same (λ d. (d.0, d.1.0, d.1.1)) (λ d. (d.0, (d.1, d.2)))
    (decided_both (decided_eq b.object object) (decided_both (decided_body b) (decided_bytes bytes (body_bytes b)))))

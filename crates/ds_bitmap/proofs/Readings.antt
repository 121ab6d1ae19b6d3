-- Every 512 bytes have a reading as a bitmap of a cluster.
use Rattle.std.proofs.Common.{◌≡◌, ℕ, ◌+◌, ◌<◌, ◌≤◌, Bool, false, List, length, map, take, Option, Some, refl, sym, ap, arith}
use Rattle.std.specs.List.{range_with_len}
use Rattle.std.proofs.lemmas.List.FromFn.{get_or-map-range_with_len, length-map-range_with_len}
use Rattle.ds_base.specs.Decoding.{IsDecoded}
use Rattle.ds_base.specs.Geometry.{IsGeom, kind_number, per_cluster}
use Rattle.ds_base.specs.declared.geometry.Geom.{Geom}
use Rattle.ds_base.specs.declared.geometry.Kind.{Kind}
use Rattle.ds_bytes.specs.Fields.{front, spelled, AllBelow, FieldsFit}
use Rattle.ds_bytes.proofs.Fronts.{front_none}
use Rattle.ds_bytes.proofs.Readings.{Decided, decided_eq, decided_bytes, decided_both, decided_same, reading_of, CanRead, number_at, piece_at}
use Rattle.ds_bitmap.specs.Bits.{Bitmap, IsBits, bits_bytes}
use Rattle.ds_bitmap.specs.BitsParts.{part_fields, bit_at}
use Rattle.ds_bitmap.specs.declared.bits.BitsParts.{BitsParts}
use Rattle.ds_bitmap.proofs.Bounds.{most_per_cluster}
use Rattle.ds_bitmap.proofs.Packed.{kind_same, names_bits, same_bitmap, unpacked_same}

-- what is read of a sector, field by field
record PartsOf (bytes : List ℕ) : Type 0 where
  parts : BitsParts
  read : front 512 bytes ≡ spelled (part_fields parts)
  fits : FieldsFit (part_fields parts)

parts_of : (bytes : List ℕ) → length bytes ≡ 512 → AllBelow 256 bytes → PartsOf bytes
parts_of bytes len below =
    let can : (at n : ℕ) → at + n ≤ 512 → CanRead at n bytes = λ at n h. record { within = omega arith; are_bytes = below } in
    let magic = piece_at 0 4 bytes (can 0 4 (omega arith)) in
    let kind = number_at 4 1 bytes (can 4 1 (omega arith)) in
    let cluster = number_at 5 1 bytes (can 5 1 (omega arith)) in
    let items = number_at 6 2 bytes (can 6 2 (omega arith)) in
    let gap = piece_at 8 24 bytes (can 8 24 (omega arith)) in
    let bits = piece_at 32 480 bytes (can 32 480 (omega arith)) in
    record {
      parts = record { magic = magic.items; kind = kind.value; cluster = cluster.value; items = items.value; gap = gap.items; bits = bits.items };
      read = rw (bits.read, gap.read, items.read, cluster.read, kind.read, magic.read, front_none bytes) refl;
      fits = (magic.size, (kind.below, (cluster.below, (items.below, (gap.size, (bits.size, tt))))));
    }

decided_kind : (a b : Kind) → Decided (a ≡ b)
decided_kind a b = decided_same (kind_same a b) (ap kind_number) (decided_eq (kind_number a) (kind_number b))

decided_bits : (g : Geom) (kind : Kind) (cluster : ℕ) (b : Bitmap) → Decided (IsBits g kind cluster b)
decided_bits g kind cluster b =
    decided_same
    (λ d. record { same_kind = d.0; same_cluster = d.1.0; count = d.1.1 })
    (λ h. (h.same_kind, (h.same_cluster, h.count)))
    (decided_both (decided_kind b.kind kind) (decided_both (decided_eq b.cluster cluster) (decided_eq (length b.used) (per_cluster g kind))))

-- the bitmap of a cluster with these bits
abbrev bits_read : Geom → Kind → ℕ → List ℕ → Bitmap
bits_read g kind cluster bits =
    record { kind = kind; cluster = cluster; used = take (per_cluster g kind) (map (bit_at bits) (range_with_len 0 3840)) }

bits_named : (g : Geom) (kind : Kind) (cluster : ℕ) (bytes : List ℕ) (p : BitsParts) (b : Bitmap) → IsGeom g → cluster < 256 → FieldsFit (part_fields p) → front 512 bytes ≡ spelled (part_fields p) → IsBits g kind cluster b → bytes ≡ bits_bytes b → bits_read g kind cluster p.bits ≡ b
bits_named g kind cluster bytes p b is small fits read h e =
    let most : per_cluster g kind ≤ 3840 = most_per_cluster g kind is in
    let below : b.cluster < 256 = omega (arith, h.same_cluster) in
    let few : length b.used ≤ 3840 = omega (arith, h.count) in
    let bits = names_bits bytes p b fits below few read e in
    let all : List Bool = map (bit_at p.bits) (range_with_len 0 3840) in
    same_bitmap (bits_read g kind cluster p.bits) b (sym h.same_kind) (sym h.same_cluster)
    (unpacked_same p.bits b.used (map (bit_at p.bits) (range_with_len 0 3840)) (per_cluster g kind) bits h.count most (length-map-range_with_len (bit_at p.bits) 0 3840)
    (λ i l. get_or-map-range_with_len (bit_at p.bits) 0 3840 i i false l (omega arith)))

pub bits_reading : (g : Geom) (kind : Kind) (cluster : ℕ) (bytes : List ℕ) → IsGeom g → cluster < 256 → length bytes ≡ 512 → AllBelow 256 bytes → (r : Option Bitmap) × IsDecoded r (λ b. IsBits g kind cluster b × (bytes ≡ bits_bytes b))
bits_reading g kind cluster bytes is small len below =
    let read = parts_of bytes len below in
    reading_of (Some (bits_read g kind cluster read.parts.bits)) (λ b. IsBits g kind cluster b × (bytes ≡ bits_bytes b))
    (λ b d. ap Some (bits_named g kind cluster bytes read.parts b is small read.fits read.read d.0 d.1))
    (λ b. decided_both (decided_bits g kind cluster b) (decided_bytes bytes (bits_bytes b)))

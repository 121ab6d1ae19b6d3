-- Every 512 bytes have a reading as a volume information, and as a file system information.
use Rattle.std.proofs.Common.{◌≡◌, ℕ, ◌+◌, ◌≤◌, List, length, Option, Some, refl, ap, arith}
use Rattle.ds_base.specs.Decoding.{IsDecoded}
use Rattle.ds_base.specs.Geometry.{IsGeom, InRange, value_of, most_of}
use Rattle.ds_base.specs.declared.geometry.Geom.{Geom}
use Rattle.ds_base.specs.declared.geometry.GeomField.{GeomField}
use Rattle.ds_base.specs.declared.geometry.GeomField.TheVariants.{Slots, Block, Clusters, Items}
use Rattle.ds_base.specs.declared.geometry.Kind.{Kind}
use Rattle.ds_base.specs.declared.geometry.Kind.TheVariants.{Fd, Sb, Pb, Fb}
use Rattle.ds_bytes.specs.Fields.{front, spelled, AllBelow, FieldsFit}
use Rattle.ds_bytes.proofs.Fronts.{front_none}
use Rattle.ds_bytes.proofs.Readings.{Decided, decided_eq, decided_le, decided_bytes, decided_both, decided_same, reading_of, CanRead, number_at, piece_at}
use Rattle.ds_layout.specs.Volume.{IsId, IsVol, vol_bytes, fs_bytes}
use Rattle.ds_layout.specs.VolumeParts.{vol_part_fields, geom_of, fs_part_fields}
use Rattle.ds_layout.specs.declared.volume.VolParts.{VolParts}
use Rattle.ds_layout.specs.declared.volume.FsParts.{FsParts}
use Rattle.ds_layout.proofs.FirstSectors.{both_same, names_fs, names_vol}

-- what is read of a sector as a volume information, field by field
record VolPartsOf (bytes : List ℕ) : Type 0 where
  parts : VolParts
  read : front 52 bytes ≡ spelled (vol_part_fields parts)
  fits : FieldsFit (vol_part_fields parts)

vol_parts_of : (bytes : List ℕ) → length bytes ≡ 512 → AllBelow 256 bytes → VolPartsOf bytes
vol_parts_of bytes len below =
    let can : (at n : ℕ) → at + n ≤ 512 → CanRead at n bytes = λ at n h. record { within = omega arith; are_bytes = below } in
    let magic = piece_at 0 6 bytes (can 0 6 (omega arith)) in
    let gap = piece_at 6 2 bytes (can 6 2 (omega arith)) in
    let version = number_at 8 4 bytes (can 8 4 (omega arith)) in
    let sectors = number_at 12 4 bytes (can 12 4 (omega arith)) in
    let volume = piece_at 16 16 bytes (can 16 16 (omega arith)) in
    let slots = number_at 32 2 bytes (can 32 2 (omega arith)) in
    let block = number_at 34 2 bytes (can 34 2 (omega arith)) in
    let a = number_at 36 2 bytes (can 36 2 (omega arith)) in
    let b = number_at 38 2 bytes (can 38 2 (omega arith)) in
    let c = number_at 40 2 bytes (can 40 2 (omega arith)) in
    let d = number_at 42 2 bytes (can 42 2 (omega arith)) in
    let e = number_at 44 2 bytes (can 44 2 (omega arith)) in
    let f = number_at 46 2 bytes (can 46 2 (omega arith)) in
    let g = number_at 48 2 bytes (can 48 2 (omega arith)) in
    let h = number_at 50 2 bytes (can 50 2 (omega arith)) in
    record {
      parts = record {
        magic = magic.items;
        gap = gap.items;
        version = version.value;
        sectors = sectors.value;
        volume = volume.items;
        slots = slots.value;
        block = block.value;
        fd_clusters = a.value;
        fd_items = b.value;
        sb_clusters = c.value;
        sb_items = d.value;
        pb_clusters = e.value;
        pb_items = f.value;
        fb_clusters = g.value;
        fb_items = h.value;
      };
      read = rw (h.read, g.read, f.read, e.read, d.read, c.read, b.read, a.read, block.read, slots.read, volume.read, sectors.read, version.read, gap.read, magic.read, front_none bytes) refl;
      fits = (magic.size, (gap.size, (version.below, (sectors.below, (volume.size, (slots.below, (block.below, (a.below, (b.below, (c.below, (d.below, (e.below, (f.below, (g.below, (h.below, tt)))))))))))))));
    }

decided_field : (g : Geom) (field : GeomField) → Decided (InRange g field)
decided_field g field = decided_both (decided_le 1 (value_of g field)) (decided_le (value_of g field) (most_of field))

-- both fields of a kind are in their ranges
abbrev KindInRange : Geom → Kind → Type 0
KindInRange g kind = InRange g (Clusters kind) × InRange g (Items kind)

decided_of_kind : (g : Geom) (kind : Kind) → Decided (KindInRange g kind)
decided_of_kind g kind = decided_both (decided_field g (Clusters kind)) (decided_field g (Items kind))

geom_from : (g : Geom) → InRange g Slots → InRange g Block → KindInRange g Fd → KindInRange g Sb → KindInRange g Pb → KindInRange g Fb → IsGeom g
geom_from g s b fd sb pb fb Slots = s
geom_from g s b fd sb pb fb Block = b
geom_from g s b fd sb pb fb (Clusters Fd) = fd.0
geom_from g s b fd sb pb fb (Items Fd) = fd.1
geom_from g s b fd sb pb fb (Clusters Sb) = sb.0
geom_from g s b fd sb pb fb (Items Sb) = sb.1
geom_from g s b fd sb pb fb (Clusters Pb) = pb.0
geom_from g s b fd sb pb fb (Items Pb) = pb.1
geom_from g s b fd sb pb fb (Clusters Fb) = fb.0
geom_from g s b fd sb pb fb (Items Fb) = fb.1

decided_geom : (g : Geom) → Decided (IsGeom g)
decided_geom g =
    decided_same
    (λ d. geom_from g d.0 d.1.0 d.1.1.0 d.1.1.1.0 d.1.1.1.1.0 d.1.1.1.1.1)
    (λ is. (is Slots, (is Block, ((is (Clusters Fd), is (Items Fd)), ((is (Clusters Sb), is (Items Sb)), ((is (Clusters Pb), is (Items Pb)), (is (Clusters Fb), is (Items Fb))))))))
    (decided_both (decided_field g Slots) (decided_both (decided_field g Block) (decided_both (decided_of_kind g Fd) (decided_both (decided_of_kind g Sb)
    (decided_both (decided_of_kind g Pb) (decided_of_kind g Fb))))))

decided_vol : (g : Geom) (volume : List ℕ) → Decided (IsVol g volume)
decided_vol g volume =
    decided_same
    (λ d. record { shape = record { four_clusters = d.0.0; four_items = d.0.1 }; is_geom = d.1.0; is_id = d.1.1 })
    (λ h. ((h.shape.four_clusters, h.shape.four_items), (h.is_geom, h.is_id)))
    (decided_both (decided_both (decided_eq (length g.clusters) 4) (decided_eq (length g.items) 4)) (decided_both (decided_geom g) (decided_eq (length volume) 16)))

pub vol_reading : (bytes : List ℕ) → length bytes ≡ 512 → AllBelow 256 bytes → (r : Option (Geom × List ℕ)) × IsDecoded r (λ v. IsVol v.0 v.1 × (bytes ≡ vol_bytes v.0 v.1))
vol_reading bytes len below =
    let read = vol_parts_of bytes len below in
    let candidate : Geom × List ℕ = (geom_of read.parts, read.parts.volume) in
    reading_of (Some candidate) (λ v. IsVol v.0 v.1 × (bytes ≡ vol_bytes v.0 v.1))
    (λ v d.
    let same = names_vol bytes v.1 read.parts v.0 read.fits d.0 read.read d.1 in
    ap Some (both_same candidate v.0 v.1 same.0 same.1))
    (λ v. decided_both (decided_vol v.0 v.1) (decided_bytes bytes (vol_bytes v.0 v.1)))

-- what is read of a sector as a file system information, field by field
record FsPartsOf (bytes : List ℕ) : Type 0 where
  parts : FsParts
  read : front 36 bytes ≡ spelled (fs_part_fields parts)
  fits : FieldsFit (fs_part_fields parts)

fs_parts_of : (bytes : List ℕ) → length bytes ≡ 512 → AllBelow 256 bytes → FsPartsOf bytes
fs_parts_of bytes len below =
    let can : (at n : ℕ) → at + n ≤ 512 → CanRead at n bytes = λ at n h. record { within = omega arith; are_bytes = below } in
    let magic = piece_at 0 4 bytes (can 0 4 (omega arith)) in
    let gap = piece_at 4 4 bytes (can 4 4 (omega arith)) in
    let version = number_at 8 4 bytes (can 8 4 (omega arith)) in
    let none = number_at 12 4 bytes (can 12 4 (omega arith)) in
    let volume = piece_at 16 16 bytes (can 16 16 (omega arith)) in
    let root = number_at 32 4 bytes (can 32 4 (omega arith)) in
    record {
      parts = record { magic = magic.items; gap = gap.items; version = version.value; none = none.value; volume = volume.items; root = root.value };
      read = rw (root.read, volume.read, none.read, version.read, gap.read, magic.read, front_none bytes) refl;
      fits = (magic.size, (gap.size, (version.below, (none.below, (volume.size, (root.below, tt))))));
    }

pub fs_reading : (bytes : List ℕ) → length bytes ≡ 512 → AllBelow 256 bytes → (r : Option (List ℕ)) × IsDecoded r (λ volume. IsId volume × (bytes ≡ fs_bytes volume))
fs_reading bytes len below =
    let read = fs_parts_of bytes len below in
    reading_of (Some read.parts.volume) (λ volume. IsId volume × (bytes ≡ fs_bytes volume))
    (λ volume d. ap Some (names_fs bytes volume read.parts read.fits d.0 read.read d.1))
    (λ volume. decided_both (decided_eq (length volume) 16) (decided_bytes bytes (fs_bytes volume)))

-- Bitmaps, as contracts see them, and the sectors that spell them.
use Rattle.std.specs.Prelude.{◌≡◌, ℕ, ◌+◌, ◌*◌, ◌<◌, Bool, true, false, if◌then◌else◌, List, [], ◌∷◌, length, map, replicate, slice_get, slice_index_or, codes, Some}
use Rattle.std.specs.List.{range_with_len}
use Rattle.ds_base.specs.declared.geometry.Geom.{Geom}
use Rattle.ds_base.specs.declared.geometry.Kind.{Kind}
use Rattle.ds_base.specs.Geometry.{kind_number, per_cluster}
use Rattle.ds_bytes.specs.Fields.{zeros, Field, Num, Raw, sector_of_fields}

-- a bitmap: the kind and the number of its cluster, and for each item whether it is used
pub record Bitmap : Type 0 where
  pub kind : Kind
  pub cluster : ℕ
  pub used : List Bool

-- the bitmap of a cluster in which no item is used
abbrev pub clear_bits : Geom → Kind → ℕ → Bitmap
clear_bits g kind cluster = record { kind = kind; cluster = cluster; used = replicate (per_cluster g kind) false }

-- a bitmap of this cluster, with as many items as each cluster of the kind has
pub record IsBits (g : Geom) (kind : Kind) (cluster : ℕ) (b : Bitmap) : Type 0 where
  pub same_kind : b.kind ≡ kind
  pub same_cluster : b.cluster ≡ cluster
  pub count : length b.used ≡ per_cluster g kind

-- every item is used
abbrev pub AllUsed : List Bool → Type 0
AllUsed used = (item : ℕ) → item < length used → slice_get used item ≡ Some true

-- this item is not used, and every item before it is
pub record IsFirstFree (used : List Bool) (item : ℕ) : Type 0 where
  pub is_free : slice_get used item ≡ Some false
  pub used_before : (before : ℕ) → before < item → slice_get used before ≡ Some true

-- 1 where the item is used, and 0 where it is not or there is no such item
abbrev pub bit_of : List Bool → ℕ → ℕ
bit_of used item = if slice_index_or used item false then 1 else 0

-- a byte of eight items, the first in the lowest bit
abbrev pub byte_of : List Bool → ℕ → ℕ
byte_of used k =
    bit_of used (8 * k) + 2 * bit_of used (8 * k + 1) + 4 * bit_of used (8 * k + 2) + 8 * bit_of used (8 * k + 3)
    + 16 * bit_of used (8 * k + 4) + 32 * bit_of used (8 * k + 5) + 64 * bit_of used (8 * k + 6) + 128 * bit_of used (8 * k + 7)

-- the first n bytes of the items
unfoldable pub packed : ℕ → List Bool → List ℕ
packed n used = map (byte_of used) (range_with_len 0 n)

abbrev pub bits_fields : Bitmap → List Field
bits_fields b =
    Raw 4 (codes "DSRB") ∷ Num 1 (kind_number b.kind) ∷ Num 1 b.cluster ∷ Num 2 (length b.used) ∷ Raw 24 (zeros 24)
    ∷ Raw 480 (packed 480 b.used) ∷ []

-- the sector of a bitmap
unfoldable pub bits_bytes : Bitmap → List ℕ
bits_bytes b = sector_of_fields (bits_fields b)

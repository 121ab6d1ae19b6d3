-- The header that a sector spells, as a function of its bytes.
use Rattle.std.specs.Prelude.{ℕ, ◌^◌, ◌&&◌, ◌==◌, Bool, true, nat_le, nat_lt, if◌then◌else◌, List, length, Option, Some, None}
use Rattle.std.specs.Str.{bytes_eq}
use Rattle.ds_marks.specs.Header.{header_bytes}
use Rattle.ds_marks.specs.HeaderParts.{header_of}
use Rattle.ds_marks.specs.Pieces.{piece_at, number_at}
use Rattle.ds_marks.specs.SlotIn.{is_count}
use Rattle.ds_marks.specs.declared.header.Header.{Header}
use Rattle.ds_marks.specs.declared.header.Owner.{Owner}
use Rattle.ds_marks.specs.declared.header_parts.HeaderParts.{HeaderParts}

-- the fields of a header as they stand in these bytes
abbrev pub header_parts_in : List ℕ → HeaderParts
header_parts_in bytes = record {
  magic = piece_at 0 4 bytes;
  owned = number_at 4 1 bytes;
  slot = number_at 5 1 bytes;
  gap = piece_at 6 2 bytes;
  object = number_at 8 4 bytes;
  hole = piece_at 12 4 bytes;
  generation = number_at 16 8 bytes;
  owner_generation = number_at 24 8 bytes;
  host = piece_at 32 16 bytes;
}

-- whether these are the fields of an owner
abbrev pub is_owner : Option Owner → Bool
is_owner None = true
is_owner (Some o) = nat_lt o.slot 256 && (length o.host == 16) && is_count o.generation

-- whether these are the fields of a header
abbrev pub is_header : Header → Bool
is_header h = nat_lt h.object (2 ^ 32) && nat_le h.generation (2 ^ 62) && is_owner h.owner

-- the header, if it is one and its sector is this
abbrev pub header_spelled_by : List ℕ → Option Header → Option Header
header_spelled_by bytes None = None
header_spelled_by bytes (Some h) = if is_header h && bytes_eq bytes (header_bytes h) then Some h else None

-- the header that the sector spells, if it spells one
unfoldable pub header_in : List ℕ → Option Header
header_in bytes = header_spelled_by bytes (header_of (header_parts_in bytes))

-- a header, where it is that of this object
abbrev pub header_if_of : ℕ → Option Header → Option Header
header_if_of object None = None
header_if_of object (Some h) = if h.object == object then Some h else None

-- The fourth stage: the addresses of objects, and the sub-blocks of directories.
use Rattle.std.specs.Prelude.{ℕ, Bool, false, not, ◌==◌, ◌&&◌, ◌||◌, nat_lt, is_none, if◌then◌else◌, List, [], ◌++◌, length, Option, Some, None, ◌+◌, ◌*◌, ◌/◌, ◌%◌, nat_le, take, drop, slice_get, slice_index}
use Rattle.std.specs.List.{position_or_len}
use Rattle.ds_base.specs.declared.geometry.Geom.{Geom}
use Rattle.ds_base.specs.declared.geometry.Kind.TheVariants.{Fd, Sb, Pb, Fb}
use Rattle.ds_base.specs.Geometry.{items_of}
use Rattle.ds_base.specs.declared.names.NodeKind.{NodeKind}
use Rattle.ds_base.specs.declared.names.NodeKind.TheVariants as kinds
use Rattle.ds_fd.specs.declared.body.Body.{Body}
use Rattle.ds_image_parts.specs.Parts.{part_at, Parts}
use Rattle.ds_image_parts.specs.Objects.{subs_by, ptrs_by, addresses_in, subs_of}
use Rattle.ds_check.specs.declared.findings.Find.{Find}
use Rattle.ds_check.specs.Rows.{find_if, row}
use Rattle.ds_check.specs.declared.findings.Find.TheVariants.{Address, Room}

-- whether address i of this list is there and isn't one of so many items
abbrev pub is_outside : ℕ → List ℕ → ℕ → Bool
is_outside items list i = nat_lt i (length list) && nat_le items (slice_index list i)

-- the address of a file's block in its pointer block, where that is an item
abbrev pub pointed_at : Parts → Body → ℕ → Option ℕ
pointed_at p b i = elim (slice_get (ptrs_by b (Some kinds.File)) (i / 128)) [
  | None ↦ None
  | Some n ↦ slice_get (addresses_in (part_at p.ptrs n)) (i % 128)
]

-- whether the address of a block is there and isn't one of so many items
abbrev pub is_bad_block : ℕ → Option ℕ → Bool
is_bad_block items None = false
is_bad_block items (Some block) = nat_le items block

-- the addresses past a file's last block in its last pointer block
abbrev pub past_last : Parts → Body → List ℕ
past_last p b = elim (slice_get (ptrs_by b (Some kinds.File)) (b.count / 128)) [
  | None ↦ []
  | Some n ↦ drop (b.count % 128) (addresses_in (part_at p.ptrs n))
]

-- the place among them of the first that isn't zero
abbrev pub first_past : Parts → Body → ℕ
first_past p b = position_or_len (λ x. not (x == 0)) (past_last p b)

-- whether an index past the last block is that of the first address that isn't zero
abbrev pub is_first_past : Parts → Body → ℕ → Bool
is_first_past p b i = nat_lt (first_past p b) (length (past_last p b)) && (i == b.count + first_past p b)

-- whether something is wrong with an address of a body: it isn't an item, or it isn't zero past the last block. In a file with
-- pointer blocks a number is that of a pointer block and that of a block, and either may be wrong
abbrev pub is_bad_address : Geom → Parts → Body → Option NodeKind → ℕ → Bool
is_bad_address g p b None i = false
is_bad_address g p b (Some kinds.Dir) i = is_outside (items_of g Sb) (subs_by b (Some kinds.Dir)) i
is_bad_address g p b (Some kinds.File) i =
    if nat_le b.count 96 then is_outside (items_of g Fb) (take b.count b.addresses) i
    else is_outside (items_of g Pb) (ptrs_by b (Some kinds.File)) i
    || (nat_lt i b.count && is_bad_block (items_of g Fb) (pointed_at p b i))
    || is_first_past p b i

-- an address of a body with which something is wrong
abbrev pub address_at : Geom → Parts → ℕ → Body → ℕ → List Find
address_at g p o b i = find_if (is_bad_address g p b b.kind i) (Address o i)

-- the most addresses that a body has, those in its pointer blocks among them
unfoldable pub most_addresses : ℕ
most_addresses = 96 * 128

abbrev pub address_finds : Geom → Parts → ℕ → Option Body → List Find
address_finds g p o None = []
address_finds g p o (Some b) = row most_addresses (address_at g p o b)

-- the addresses with which something is wrong, by object and index
abbrev pub misaddressed : Geom → Parts → List Find
misaddressed g p = row (items_of g Fd) (λ o. address_finds g p o (part_at p.bodies o))

-- a sub-block of a directory that is an item without its form, by its first room
abbrev pub room_at : Geom → Parts → ℕ → List ℕ → ℕ → List Find
room_at g p o subs i = find_if (nat_lt (slice_index subs i) (items_of g Sb) && is_none (part_at p.subs (slice_index subs i))) (Room o (4 * i))

-- those of one directory
abbrev pub room_finds : Geom → Parts → ℕ → List ℕ → List Find
room_finds g p o subs = row (length subs) (room_at g p o subs)

abbrev pub unroomed : Geom → Parts → List Find
unroomed g p = row (items_of g Fd) (λ o. room_finds g p o (subs_of (part_at p.bodies o)))

abbrev pub addresses_stage : Geom → Parts → List Find
addresses_stage g p = misaddressed g p ++ unroomed g p

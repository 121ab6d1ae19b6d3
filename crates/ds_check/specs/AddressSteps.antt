-- One address of a body as it is looked at: by its pointer block, and by what stands past the last block.
use Rattle.std.specs.Prelude.{ℕ, Bool, false, not, ◌==◌, ◌&&◌, ◌||◌, nat_lt, if◌then◌else◌, List, length, Option, Some, None, ◌+◌, ◌%◌, nat_le, take, slice_get}
use Rattle.std.specs.List.{position_or_len}
use Rattle.ds_base.specs.declared.geometry.Geom.{Geom}
use Rattle.ds_base.specs.Geometry.{items_of}
use Rattle.ds_base.specs.declared.geometry.Kind.TheVariants.{Sb, Pb, Fb}
use Rattle.ds_base.specs.declared.names.NodeKind.{NodeKind}
use Rattle.ds_base.specs.declared.names.NodeKind.TheVariants as kinds
use Rattle.ds_fd.specs.declared.body.Body.{Body}
use Rattle.ds_ptr.specs.declared.ptr_block.PtrBlock.{PtrBlock}
use Rattle.ds_image_parts.specs.Parts.{part_at, Parts}
use Rattle.ds_image_parts.specs.Objects.{subs_by, ptrs_by, addresses_in}
use Rattle.ds_check.specs.Addresses.{is_outside, is_bad_block}

-- a pointer block of a file, by its place among them
abbrev pub pointer_block : Parts → Body → ℕ → Option PtrBlock
pointer_block p b place = elim (slice_get (ptrs_by b (Some kinds.File)) place) [
  | None ↦ None
  | Some n ↦ part_at p.ptrs n
]

-- whether an index is that of the first number that isn't zero of these, which are those past the last block
abbrev pub is_first_used : List ℕ → ℕ → ℕ → Bool
is_first_used past count i =
    nat_lt (position_or_len (λ x. not (x == 0)) past) (length past) && (i == count + position_or_len (λ x. not (x == 0)) past)

-- whether something is wrong with an address of a body, by its pointer block and the addresses past the body's last block
abbrev pub is_bad_number : Geom → Body → Option NodeKind → Option PtrBlock → List ℕ → ℕ → Bool
is_bad_number g b None block past i = false
is_bad_number g b (Some kinds.Dir) block past i = is_outside (items_of g Sb) (subs_by b (Some kinds.Dir)) i
is_bad_number g b (Some kinds.File) block past i =
    if nat_le b.count 96 then is_outside (items_of g Fb) (take b.count b.addresses) i
    else is_outside (items_of g Pb) (ptrs_by b (Some kinds.File)) i
    || (nat_lt i b.count && is_bad_block (items_of g Fb) (slice_get (addresses_in block) (i % 128)))
    || is_first_used past b.count i

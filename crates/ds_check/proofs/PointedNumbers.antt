-- The addresses of a file by its pointer blocks.
use Rattle.std.proofs.Common.{◌≡◌, ℕ, ◌+◌, ◌/◌, ◌%◌, ◌<◌, ◌&&◌, ◌||◌, nat_le, nat_lt, if◌then◌else◌, List, [], take, drop, slice_get, Option, None, Some, refl, ap, ◌∙◌, arith}
use Rattle.std.proofs.lemmas.List.{drop_all}
use Rattle.ds_base.specs.declared.geometry.Geom.{Geom}
use Rattle.ds_base.specs.declared.geometry.Kind.TheVariants.{Fb, Pb}
use Rattle.ds_base.specs.Geometry.{items_of}
use Rattle.ds_base.specs.declared.names.NodeKind.{NodeKind}
use Rattle.ds_base.specs.declared.names.NodeKind.TheVariants as kinds
use Rattle.ds_fd.specs.declared.body.Body.{Body}
use Rattle.ds_image_parts.specs.Objects.{ptrs_by, addresses_in}
use Rattle.ds_image_parts.specs.Parts.{Parts, part_at}
use Rattle.ds_ptr.specs.declared.ptr_block.PtrBlock.{PtrBlock}
use Rattle.ds_check.specs.AddressSteps.{pointer_block, is_bad_number}
use Rattle.ds_check.specs.Addresses.{is_outside, is_bad_block, past_last, is_first_past, is_bad_address}

pointed-in : (p : Parts) (o : Option ℕ) (k : ℕ)
    → slice_get (addresses_in (elim o [ None ↦ None | Some n ↦ part_at p.ptrs n ])) k
    ≡ (elim o as (λ _. Option ℕ) [ None ↦ None | Some n ↦ slice_get (addresses_in (part_at p.ptrs n)) k ])
pointed-in p None k = refl
pointed-in p (Some n) k = refl

past-in : (p : Parts) (o : Option ℕ) (k : ℕ)
    → drop k (addresses_in (elim o [ None ↦ None | Some n ↦ part_at p.ptrs n ]))
    ≡ (elim o as (λ _. List ℕ) [ None ↦ [] | Some n ↦ drop k (addresses_in (part_at p.ptrs n)) ])
past-in p None k = drop_all k [] (omega arith)
past-in p (Some n) k = refl

-- the addresses past the last block are those of the last pointer block from there on
pub past_rest : (p : Parts) (b : Body) (block : Option PtrBlock) (past : List ℕ) → block ≡ pointer_block p b (b.count / 128)
    → past ≡ drop (b.count % 128) (addresses_in block) → past ≡ past_last p b
past_rest p b block past is rest =
    rest ∙ ap (λ o. drop (b.count % 128) (addresses_in o)) is ∙ past-in p (slice_get (ptrs_by b (Some kinds.File)) (b.count / 128)) (b.count % 128)

file_number : (g : Geom) (p : Parts) (b : Body) (i : ℕ) → is_bad_number g b (Some kinds.File) (pointer_block p b (i / 128)) (past_last p b) i ≡ is_bad_address g p b (Some kinds.File) i
file_number g p b i =
    ap (λ o. if nat_le b.count 96 then is_outside (items_of g Fb) (take b.count b.addresses) i
    else is_outside (items_of g Pb) (ptrs_by b (Some kinds.File)) i || (nat_lt i b.count && is_bad_block (items_of g Fb) o) || is_first_past p b i)
    (pointed-in p (slice_get (ptrs_by b (Some kinds.File)) (i / 128)) (i % 128))

-- whether something is wrong with an address is seen by its pointer block and what is past the last block
pub bad_number : (g : Geom) (p : Parts) (b : Body) (kind : Option NodeKind) (i : ℕ) → is_bad_number g b kind (pointer_block p b (i / 128)) (past_last p b) i ≡ is_bad_address g p b kind i
bad_number g p b None i = refl
bad_number g p b (Some kinds.Dir) i = refl
bad_number g p b (Some kinds.File) i = file_number g p b i

-- the next index is in the same pointer block unless it is the first in its own
pub same_block : (p : Parts) (b : Body) (i : ℕ) (block : Option PtrBlock) → block ≡ pointer_block p b (i / 128) → 0 < (i + 1) % 128
    → block ≡ pointer_block p b ((i + 1) / 128)
same_block p b i block is inner =
    let same : i / 128 ≡ (i + 1) / 128 = omega arith in
    is ∙ ap (pointer_block p b) same

-- What is read of a sector that spells a header is that header.
use Rattle.std.proofs.Common.{◌≡◌, ℕ, ◌^◌, ◌<◌, ◌≤◌, List, length, Option, Some, None, refl, sym, ◌∙◌, arith}
use Rattle.std.proofs.lemmas.List.{length-replicate}
use Rattle.ds_bytes.specs.Fields.{front, spelled, FieldsFit}
use Rattle.ds_bytes.proofs.Fronts.{front-padded}
use Rattle.ds_bytes.proofs.Little.{length-zeros}
use Rattle.ds_bytes.proofs.SameFields.{length-spelled, read_same}
use Rattle.ds_marks.specs.Header.{owned_code, written_owner, IsOwner, HasOwnerWidths, IsHeader, header_fields, header_bytes}
use Rattle.ds_marks.specs.HeaderParts.{part_fields, owner_named, header_of}
use Rattle.ds_marks.specs.declared.header.Header.{Header}
use Rattle.ds_marks.specs.declared.header.Owner.{Owner}
use Rattle.ds_marks.specs.declared.header_parts.HeaderParts.{HeaderParts}

-- what is written of an owner has its widths
record OwnerFits (o : Option Owner) : Type 0 where
  code_fits : owned_code o < 256
  slot_fits : (written_owner o).slot < 256
  generation_fits : (written_owner o).generation < 2 ^ 64
  host_size : length (written_owner o).host ≡ 16

owner_fits : (o : Option Owner) → HasOwnerWidths o → IsOwner o → OwnerFits o
owner_fits None h k = record { code_fits = omega arith; slot_fits = omega arith; generation_fits = omega arith; host_size = length-replicate {A = ℕ} 16 0 }
owner_fits (Some o) h k =
    let most : o.generation ≤ 2 ^ 62 = k.1 in
    record { code_fits = omega arith; slot_fits = h.0; generation_fits = omega arith; host_size = h.1 }

pub header_fields_fit : (h : Header) → IsHeader h → FieldsFit (header_fields h)
header_fields_fit h is =
    let generation : h.generation ≤ 2 ^ 62 = is.ranges.generation_to in
    let o = owner_fits h.owner is.widths.owner_fits is.ranges.is_owner in
    (refl, (o.code_fits, (o.slot_fits, (length-zeros 2, (is.widths.object_fits, (length-zeros 4, (omega arith, (o.generation_fits, (o.host_size, tt)))))))))

owner_again : (o : Option Owner) → owner_named (owned_code o) (written_owner o) ≡ Some o
owner_again None = refl
owner_again (Some o) = refl

same_owner : (a b : Owner) → a.slot ≡ b.slot → a.generation ≡ b.generation → a.host ≡ b.host → a ≡ b
same_owner a b p q r =
    let made : Owner = record { slot = a.slot; generation = a.generation; host = a.host } in
    let same : made ≡ b = rw (p, q, r) refl in
    same

same_header : (a b : Header) → a.object ≡ b.object → a.generation ≡ b.generation → a.owner ≡ b.owner → a ≡ b
same_header a b p q r =
    let made : Header = record { object = a.object; generation = a.generation; owner = a.owner } in
    let same : made ≡ b = rw (p, q, r) refl in
    same

pub names_header : (bytes : List ℕ) (p : HeaderParts) (h : Header) → FieldsFit (part_fields p) → IsHeader h → front 48 bytes ≡ spelled (part_fields p) → bytes ≡ header_bytes h → header_of p ≡ Some h
unfolding header_bytes
names_header bytes p h fits is read e =
    let same : part_fields p ≡ header_fields h = read_same 48 (part_fields p) (header_fields h) bytes refl refl fits (header_fields_fit h is) read e in
    let code : p.owned ≡ owned_code h.owner = cc in
    let slot : p.slot ≡ (written_owner h.owner).slot = cc in
    let object : p.object ≡ h.object = cc in
    let generation : p.generation ≡ h.generation = cc in
    let by : p.owner_generation ≡ (written_owner h.owner).generation = cc in
    let host : p.host ≡ (written_owner h.owner).host = cc in
    let named : Owner = record { slot = p.slot; generation = p.owner_generation; host = p.host } in
    let owner : named ≡ written_owner h.owner = same_owner named (written_owner h.owner) slot by host in
    rw (code, owner, owner_again h.owner, object, generation) refl

-- two headers that are spelled alike are one
pub header_same : (a b : Header) → IsHeader a → IsHeader b → header_bytes a ≡ header_bytes b → a ≡ b
unfolding header_bytes
header_same a b h k e =
    let fits = header_fields_fit a h in
    let read = front-padded 48 (spelled (header_fields a)) (length-spelled (header_fields a) fits) in
    let same : header_fields a ≡ header_fields b = read_same 48 (header_fields a) (header_fields b) (header_bytes a) refl refl fits (header_fields_fit b k) read e in
    let code : owned_code a.owner ≡ owned_code b.owner = cc in
    let slot : (written_owner a.owner).slot ≡ (written_owner b.owner).slot = cc in
    let object : a.object ≡ b.object = cc in
    let generation : a.generation ≡ b.generation = cc in
    let by : (written_owner a.owner).generation ≡ (written_owner b.owner).generation = cc in
    let host : (written_owner a.owner).host ≡ (written_owner b.owner).host = cc in
    let written : written_owner a.owner ≡ written_owner b.owner = same_owner (written_owner a.owner) (written_owner b.owner) slot by host in
    let named : owner_named (owned_code a.owner) (written_owner a.owner) ≡ owner_named (owned_code b.owner) (written_owner b.owner) = rw (code, written) refl in
    let some : Some a.owner ≡ Some b.owner = sym (owner_again a.owner) ∙ named ∙ owner_again b.owner in
    let owner : a.owner ≡ b.owner = cc in
    same_header a b object generation owner

-- What is read of a sector that spells a body is that body.
use Rattle.std.proofs.Common.{◌≡◌, ℕ, List, Some, refl}
use Rattle.ds_bytes.specs.Fields.{front, spelled, FieldsFit}
use Rattle.ds_bytes.proofs.Little.{length-zeros}
use Rattle.ds_bytes.proofs.SameFields.{read_same}
use Rattle.ds_bytes.specs.NodeKinds.{kind_code}
use Rattle.ds_bytes.proofs.KindCodes.{kind_code_below, kind_of_code-kind_code}
use Rattle.ds_fd.specs.Body.{HasWidths, body_fields, body_bytes}
use Rattle.ds_fd.specs.BodyParts.{part_fields, body_of}
use Rattle.ds_fd.specs.declared.body.Body.{Body}
use Rattle.ds_fd.specs.declared.parts.BodyParts.{BodyParts}

pub body_fields_fit : (b : Body) → HasWidths b → FieldsFit (body_fields b)
body_fields_fit b h =
    (refl, (kind_code_below b.kind, (length-zeros 3, (h.object_fits, (h.links_fit, (h.birth_fits, (h.count_fits, (length-zeros 4, ((h.address_count, h.addresses_fit), tt)))))))))

pub names_body : (bytes : List ℕ) (p : BodyParts) (b : Body) → FieldsFit (part_fields p) → HasWidths b → front 416 bytes ≡ spelled (part_fields p) → bytes ≡ body_bytes b → body_of p ≡ Some b
unfolding body_bytes
names_body bytes p b fits h read e =
    let same : part_fields p ≡ body_fields b = read_same 416 (part_fields p) (body_fields b) bytes refl refl fits (body_fields_fit b h) read e in
    let kind : p.kind ≡ kind_code b.kind = cc in
    let object : p.object ≡ b.object = cc in
    let links : p.links ≡ b.links = cc in
    let birth : p.birth ≡ b.birth = cc in
    let count : p.count ≡ b.count = cc in
    let addresses : p.addresses ≡ b.addresses = cc in
    rw (kind, object, links, birth, count, addresses, kind_of_code-kind_code b.kind) refl

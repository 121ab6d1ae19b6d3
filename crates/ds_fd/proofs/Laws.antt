-- What layers above rest on of bodies and their sectors.
use Rattle.std.proofs.Common.{◌≡◌, refl}
use Rattle.ds_bytes.specs.Fields.{spelled}
use Rattle.ds_bytes.proofs.Fronts.{front-padded}
use Rattle.ds_bytes.proofs.SameFields.{length-spelled, read_same}
use Rattle.ds_bytes.specs.NodeKinds.{kind_code}
use Rattle.ds_bytes.proofs.KindCodes.{kind_code_same}
use Rattle.ds_fd.specs.Body.{IsBody, body_fields, body_bytes}
use Rattle.ds_fd.specs.declared.body.Body.{Body}
use Rattle.ds_fd.proofs.Named.{body_fields_fit}

same_body : (a b : Body) → a.object ≡ b.object → a.kind ≡ b.kind → a.links ≡ b.links → a.birth ≡ b.birth → a.count ≡ b.count → a.addresses ≡ b.addresses → a ≡ b
same_body a b p q r s t u =
    let made : Body = record { object = a.object; kind = a.kind; links = a.links; birth = a.birth; count = a.count; addresses = a.addresses } in
    let same : made ≡ b = rw (p, q, r, s, t, u) refl in
    same

-- two bodies that are spelled alike are one
pub body_same : (a b : Body) → IsBody a → IsBody b → body_bytes a ≡ body_bytes b → a ≡ b
unfolding body_bytes
body_same a b h k e =
    let read = front-padded 416 (spelled (body_fields a)) (length-spelled (body_fields a) (body_fields_fit a h.widths)) in
    let same : body_fields a ≡ body_fields b =
    read_same 416 (body_fields a) (body_fields b) (body_bytes a) refl refl (body_fields_fit a h.widths) (body_fields_fit b k.widths) read e in
    let code : kind_code a.kind ≡ kind_code b.kind = cc in
    let kind : a.kind ≡ b.kind = kind_code_same a.kind b.kind code in
    let object : a.object ≡ b.object = cc in
    let links : a.links ≡ b.links = cc in
    let birth : a.birth ≡ b.birth = cc in
    let count : a.count ≡ b.count = cc in
    let addresses : a.addresses ≡ b.addresses = cc in
    same_body a b object kind links birth count addresses

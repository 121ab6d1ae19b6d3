-- The fields of a body as they are read.
use Rattle.std.specs.Prelude.{List, [], ◌∷◌, Option, option_map}
use Rattle.ds_bytes.specs.Fields.{Field, Num, Raw, Nums}
use Rattle.ds_bytes.specs.NodeKinds.{kind_of_code}
use Rattle.ds_fd.specs.declared.body.Body.{Body}
use Rattle.ds_fd.specs.declared.parts.BodyParts.{BodyParts}

abbrev pub part_fields : BodyParts → List Field
part_fields p =
    Raw 4 p.magic ∷ Num 1 p.kind ∷ Raw 3 p.gap ∷ Num 4 p.object ∷ Num 4 p.links ∷ Num 8 p.birth ∷ Num 4 p.count
    ∷ Raw 4 p.hole ∷ Nums 4 96 p.addresses ∷ []

-- the body with these fields, if there is such a kind
abbrev pub body_of : BodyParts → Option Body
body_of p =
    option_map
    (λ kind. record {
      object = p.object;
      kind = kind;
      links = p.links;
      birth = p.birth;
      count = p.count;
      addresses = p.addresses;
    })
    (kind_of_code p.kind)

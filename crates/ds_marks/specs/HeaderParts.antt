-- The fields of a header as they are read.
use Rattle.std.specs.Prelude.{ℕ, zero, suc, List, [], ◌∷◌, Option, Some, None, option_map}
use Rattle.ds_bytes.specs.Fields.{Field, Num, Raw}
use Rattle.ds_marks.specs.declared.header.Header.{Header}
use Rattle.ds_marks.specs.declared.header.Owner.{Owner}
use Rattle.ds_marks.specs.declared.header_parts.HeaderParts.{HeaderParts}

abbrev pub part_fields : HeaderParts → List Field
part_fields p =
    Raw 4 p.magic ∷ Num 1 p.owned ∷ Num 1 p.slot ∷ Raw 2 p.gap ∷ Num 4 p.object ∷ Raw 4 p.hole ∷ Num 8 p.generation
    ∷ Num 8 p.owner_generation ∷ Raw 16 p.host ∷ []

-- the owner where the byte says that there is one, or that there is none
abbrev pub owner_named : ℕ → Owner → Option (Option Owner)
owner_named zero o = Some None
owner_named (suc zero) o = Some (Some o)
owner_named (suc (suc _)) o = None

-- the header with these fields, if the object is owned or not
abbrev pub header_of : HeaderParts → Option Header
header_of p =
    option_map
    (λ owner. record { object = p.object; generation = p.generation; owner = owner })
    (owner_named p.owned (record { slot = p.slot; generation = p.owner_generation; host = p.host }))

-- The fields of a bitmap as they are read.
use Rattle.std.specs.Prelude.{ℕ, ◌/◌, ◌%◌, ◌^◌, Bool, ◌==◌, List, [], ◌∷◌, slice_index}
use Rattle.ds_bytes.specs.Fields.{Field, Num, Raw}
use Rattle.ds_bitmap.specs.declared.bits.BitsParts.{BitsParts}

abbrev pub part_fields : BitsParts → List Field
part_fields p = Raw 4 p.magic ∷ Num 1 p.kind ∷ Num 1 p.cluster ∷ Num 2 p.items ∷ Raw 24 p.gap ∷ Raw 480 p.bits ∷ []

-- whether bit i of the bytes is set, each byte's lowest first
abbrev pub bit_at : List ℕ → ℕ → Bool
bit_at bytes i = slice_index bytes (i / 8) / 2 ^ (i % 8) % 2 == 1

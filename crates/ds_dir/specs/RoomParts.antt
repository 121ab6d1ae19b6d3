-- The fields of a room as they are read.
use Rattle.std.specs.Prelude.{List, [], ◌∷◌}
use Rattle.ds_bytes.specs.Fields.{Field, Num, Raw}
use Rattle.ds_dir.specs.declared.room.RoomParts.{RoomParts}

abbrev pub part_fields : RoomParts → List Field
part_fields p = Num 1 p.kind ∷ Num 1 p.length ∷ Raw 2 p.gap ∷ Num 4 p.object ∷ Num 8 p.birth ∷ Raw 112 p.name ∷ []

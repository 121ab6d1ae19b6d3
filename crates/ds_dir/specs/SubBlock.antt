-- Which sub-blocks there are, and the sectors that spell them.
use Rattle.std.specs.Prelude.{◌≡◌, ℕ, ◌-◌, ◌^◌, ◌<◌, ◌≤◌, List, [], ◌∷◌, ◌++◌, length, Option, Some, None, All}
use Rattle.std.specs.List.{flat_map}
use Rattle.ds_base.specs.Names.{IsName}
use Rattle.ds_bytes.specs.Fields.{zeros, Field, Num, Raw, spelled}
use Rattle.ds_bytes.specs.NodeKinds.{kind_code}
use Rattle.ds_dir.specs.declared.sub_block.Entry.{Entry}
use Rattle.ds_dir.specs.declared.sub_block.SubBlock.{SubBlock}

-- an entry with a name, and a birth from 1 to 2^62
pub record IsEntry (e : Entry) : Type 0 where
  pub is_name : IsName e.name
  pub object_fits : e.key.object < 2 ^ 32
  pub birth_from : 1 ≤ e.key.birth
  pub birth_to : e.key.birth ≤ 2 ^ 62

-- a free room, or one with such an entry
abbrev pub IsRoom : Option Entry → Type 0
IsRoom None = Unit {0}
IsRoom (Some e) = IsEntry e

-- four such rooms
pub record IsSubBlock (b : SubBlock) : Type 0 where
  pub four : length b.rooms ≡ 4
  pub are_rooms : All IsRoom b.rooms

-- the fields of a used room: its kind, the length of its name, two zeros, the object, the birth, and the name with zeros
abbrev pub entry_fields : Entry → List Field
entry_fields e =
    Num 1 (kind_code (Some e.kind)) ∷ Num 1 (length e.name) ∷ Raw 2 (zeros 2) ∷ Num 4 e.key.object ∷ Num 8 e.key.birth
    ∷ Raw 112 (e.name ++ zeros (112 - length e.name)) ∷ []

-- the 128 bytes of a room: a free one is all zero
unfoldable pub room_bytes : Option Entry → List ℕ
room_bytes None = zeros 128
room_bytes (Some e) = spelled (entry_fields e)

-- the sector of a sub-block: its rooms, one after another
unfoldable pub sub_bytes : SubBlock → List ℕ
sub_bytes b = flat_map room_bytes b.rooms

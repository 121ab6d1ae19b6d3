-- The rooms of a directory, as a host that looks for a name or makes an entry sees them.
use Rattle.std.specs.Prelude.{ℕ, ◌+◌, Bool, true, false, List, [], ◌∷◌, length, Option, Some, None}
use Rattle.std.specs.List.{filter_map, find}
use Rattle.std.specs.Str.{bytes_eq}
use Rattle.ds_base.specs.declared.names.Key.{Key}
use Rattle.ds_base.specs.declared.names.NodeKind.TheVariants as kinds
use Rattle.ds_dir.specs.declared.sub_block.Entry.{Entry}

abbrev pub Rooms : Type 0
Rooms = List (Option Entry)

-- the entries of the used rooms, in order
abbrev pub entries_in : Rooms → List Entry
entries_in rooms = filter_map (λ room. room) rooms

-- the first entry with a name
abbrev pub entry_named : List ℕ → Rooms → Option Entry
entry_named name rooms = find (λ e. bytes_eq e.name name) (entries_in rooms)

-- the first free room takes the entry
abbrev pub with_entry : Entry → Rooms → Rooms
with_entry e [] = []
with_entry e (None ∷ rooms) = Some e ∷ rooms
with_entry e (Some used ∷ rooms) = Some used ∷ with_entry e rooms

-- whether a room is free
abbrev pub has_free_room : Rooms → Bool
has_free_room [] = false
has_free_room (None ∷ rooms) = true
has_free_room (Some used ∷ rooms) = has_free_room rooms

-- the key of the next object: its number is one more than the used rooms, and its birth is 1
abbrev pub next_key : Rooms → Key
next_key rooms = record { object = 1 + length (entries_in rooms); birth = 1 }

-- an empty file under a name
abbrev pub file_entry : List ℕ → Key → Entry
file_entry name key = record { name = name; key = key; kind = kinds.File }

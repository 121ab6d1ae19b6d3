-- The rooms of a directory, as a planner counts them and looks for a free one.
use Rattle.std.specs.Prelude.{ℕ, suc, ◌+◌, List, [], ◌∷◌, length, option_map, Option, Some, None, Result, Ok, nat_le, if◌then◌else◌, Err}
use Rattle.std.specs.List.{filter_map}
use Rattle.ds_base.specs.declared.geometry.Geom.{Geom}
use Rattle.ds_dir.specs.declared.sub_block.Entry.{Entry}
use Rattle.ds_dir.specs.declared.sub_block.SubBlock.{SubBlock}
use Rattle.ds_fd.specs.declared.body.Body.{Body}
use Rattle.ds_image_parts.specs.Objects.{subs_of}
use Rattle.ds_image_parts.specs.Parts.{Parts}
use Rattle.ds_image.specs.SeenValues.{SeenValue}
use Rattle.ds_plan_base.specs.declared.rooms.FreeRoom.{FreeRoom}
use Rattle.ds_plan_base.specs.Bodies.{sub_seen}
use Rattle.ds_plan_base.specs.Entries.{found_from}
use Rattle.ds_plan_base.specs.Steps.{after, or_later}
use Rattle.ds_plan_base.specs.declared.entries.Found.{Found}
use Rattle.ds_plan_base.specs.declared.stops.Ending.TheVariants as endings
use Rattle.ds_plan_base.specs.declared.stops.Stop.{Stop}
use Rattle.ds_plan_base.specs.declared.stops.Stop.TheVariants.{Done}

-- how many rooms are used
abbrev pub used_count : List (Option Entry) → ℕ
used_count rooms = length (filter_map (λ room. room) rooms)

-- this many, and the used rooms of these sub-blocks
abbrev pub count_from : Geom → SeenValue → Parts → Body → ℕ → List ℕ → Result ℕ Stop
count_from g seen p b count [] = Ok count
count_from g seen p b count (n ∷ subs) = after (sub_seen g seen p b n) (λ block. count_from g seen p b (count + used_count block.rooms) subs)

-- the used rooms of a directory
abbrev pub count_in : Geom → SeenValue → Parts → Body → Result ℕ Stop
count_in g seen p b = count_from g seen p b 0 (subs_of (Some b))

-- the first room that is free, among rooms from this number on
abbrev pub first_room : ℕ → List (Option Entry) → Option ℕ
first_room room [] = None
first_room room (None ∷ rooms) = Some room
first_room room (Some e ∷ rooms) = first_room (suc room) rooms

-- the first free room of a sub-block
abbrev pub free_at : ℕ → SubBlock → ℕ → FreeRoom
free_at n block room = record { sub = n; block = block; room = room }

abbrev pub free_in : ℕ → SubBlock → Option FreeRoom
free_in n block = option_map (free_at n block) (first_room 0 block.rooms)

abbrev pub room_from : Geom → SeenValue → Parts → Body → List ℕ → Result (Option FreeRoom) Stop
room_from g seen p b [] = Ok None
room_from g seen p b (n ∷ subs) =
    after (sub_seen g seen p b n) (λ block. or_later (free_in n block) (room_from g seen p b subs))

-- the first free room of a directory
abbrev pub room_in : Geom → SeenValue → Parts → Body → Result (Option FreeRoom) Stop
room_in g seen p b = room_from g seen p b (subs_of (Some b))

-- no entry of a directory has the name
abbrev pub lacks_by : Option Found → Result ℕ Stop → Result ℕ Stop
lacks_by None count = count
lacks_by (Some found) count = Err (Done endings.Exists)

abbrev pub not_full : ℕ → Result ℕ Stop
not_full count = if nat_le 384 count then Err (Done endings.DirFull) else Ok count

-- this many entries, and those of these sub-blocks, in a directory that may get one of this name
abbrev pub entries_from : Geom → SeenValue → Parts → Body → List ℕ → ℕ → List ℕ → Result ℕ Stop
entries_from g seen p b name count subs =
    after (found_from g seen p b name subs) (λ found. lacks_by found (after (count_from g seen p b count subs) not_full))

-- the number of entries of a directory that may get one of this name
abbrev pub entries_before : Geom → SeenValue → Parts → Body → List ℕ → Result ℕ Stop
entries_before g seen p b name = entries_from g seen p b name 0 (subs_of (Some b))

-- the first free room of a directory that may get an entry of this name: one that is known, or else that of these sub-blocks
abbrev pub room_for_from : Geom → SeenValue → Parts → Body → List ℕ → ℕ → Option FreeRoom → List ℕ → Result (Option FreeRoom) Stop
room_for_from g seen p b name count free subs =
    after (entries_from g seen p b name count subs) (λ all. or_later free (room_from g seen p b subs))

abbrev pub room_for : Geom → SeenValue → Parts → Body → List ℕ → Result (Option FreeRoom) Stop
room_for g seen p b name = after (entries_before g seen p b name) (λ count. room_in g seen p b)

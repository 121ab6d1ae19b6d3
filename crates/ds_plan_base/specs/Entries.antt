-- Entries of a directory by name.
use Rattle.std.specs.Prelude.{ℕ, suc, bytes_eq, if◌then◌else◌, List, [], ◌∷◌, option_map, Option, Some, None, Result, Ok, Err}
use Rattle.ds_base.specs.declared.geometry.Geom.{Geom}
use Rattle.ds_dir.specs.declared.sub_block.Entry.{Entry}
use Rattle.ds_dir.specs.declared.sub_block.SubBlock.{SubBlock}
use Rattle.ds_fd.specs.declared.body.Body.{Body}
use Rattle.ds_image_parts.specs.Objects.{subs_of}
use Rattle.ds_image_parts.specs.Parts.{Parts}
use Rattle.ds_image.specs.SeenValues.{SeenValue}
use Rattle.ds_plan_base.specs.Bodies.{sub_seen}
use Rattle.ds_plan_base.specs.Steps.{after, or_later}
use Rattle.ds_plan_base.specs.declared.entries.Found.{Found}
use Rattle.ds_plan_base.specs.declared.entries.Named.{Named}
use Rattle.ds_plan_base.specs.declared.stops.Ending.TheVariants as endings
use Rattle.ds_plan_base.specs.declared.stops.Stop.{Stop}
use Rattle.ds_plan_base.specs.declared.stops.Stop.TheVariants.{Done}

-- the entry of a room that has the name; none of another name or of a free room
abbrev pub room_named : ℕ → List ℕ → Option Entry → Option Named
room_named room name None = None
room_named room name (Some e) = if bytes_eq name e.name then Some (record { room = room; key = e.key; kind = e.kind }) else None

-- the first room with the name among a sub-block's rooms from this number on
abbrev pub named_among : ℕ → List ℕ → List (Option Entry) → Option Named
named_among room name [] = None
named_among room name (r ∷ rooms) = elim (room_named room name r) [
  | None ↦ named_among (suc room) name rooms
  | Some named ↦ Some named
]

-- the first entry with the name in a sub-block
abbrev pub found_at : ℕ → SubBlock → Named → Found
found_at n block named = record { sub = n; block = block; room = named.room; key = named.key; kind = named.kind }

abbrev pub found_among : ℕ → SubBlock → List ℕ → Option Found
found_among n block name = option_map (found_at n block) (named_among 0 name block.rooms)

-- the first room with the name in these sub-blocks of a directory, each of which is read where it wasn't
abbrev pub found_from : Geom → SeenValue → Parts → Body → List ℕ → List ℕ → Result (Option Found) Stop
found_from g seen p b name [] = Ok None
found_from g seen p b name (n ∷ subs) =
    after (sub_seen g seen p b n) (λ block. or_later (found_among n block name) (found_from g seen p b name subs))

-- the first room with the name in a directory
abbrev pub found_in : Geom → SeenValue → Parts → Body → List ℕ → Result (Option Found) Stop
found_in g seen p b name = found_from g seen p b name (subs_of (Some b))

-- an entry that is wanted: without one the name isn't found
abbrev pub entry_by : Option Found → Result Found Stop
entry_by None = Err (Done endings.NotFound)
entry_by (Some found) = Ok found

abbrev pub wanted_entry : Geom → SeenValue → Parts → Body → List ℕ → Result Found Stop
wanted_entry g seen p b name = after (found_in g seen p b name) entry_by

-- these sub-blocks of a directory are known once each was read
abbrev pub subs_known : Geom → SeenValue → Parts → Body → List ℕ → Result Body Stop
subs_known g seen p b [] = Ok b
subs_known g seen p b (n ∷ subs) = after (sub_seen g seen p b n) (λ block. subs_known g seen p b subs)

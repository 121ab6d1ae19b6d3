-- The entry that goes, as a planner finds it, and the object that it names.
use Rattle.std.specs.Prelude.{ℕ, ◌==◌, ◌&&◌, nat_lt, Bool, true, false, if◌then◌else◌, List, Option, Some, Result, Ok, Err}
use Rattle.ds_base.specs.Geometry.{items_of}
use Rattle.ds_base.specs.declared.geometry.Geom.{Geom}
use Rattle.ds_base.specs.declared.geometry.Kind.TheVariants.{Fd}
use Rattle.ds_base.specs.declared.names.Key.{Key}
use Rattle.ds_base.specs.declared.names.NodeKind.{NodeKind}
use Rattle.ds_base.specs.declared.names.NodeKind.TheVariants as kinds
use Rattle.ds_fd.specs.declared.body.Body.{Body}
use Rattle.ds_image_parts.specs.Parts.{Parts}
use Rattle.ds_image.specs.SeenValues.{SeenValue, has_lock}
use Rattle.ds_layout.specs.Places.{place_sector}
use Rattle.ds_layout.specs.declared.places.Place.TheVariants as places
use Rattle.ds_plan_base.specs.Bodies.{body_seen}
use Rattle.ds_plan_base.specs.Entries.{wanted_entry}
use Rattle.ds_plan_base.specs.Steps.{after}
use Rattle.ds_plan_base.specs.declared.entries.Found.{Found}
use Rattle.ds_plan_base.specs.declared.stops.Ending.TheVariants as endings
use Rattle.ds_plan_base.specs.declared.stops.Stop.{Stop}
use Rattle.ds_plan_base.specs.declared.stops.Stop.TheVariants.{Lock, Odd, Done}

-- an entry whose object is of the kind that the call removes: a Remove of a directory is refused, and a Rmdir of a file
abbrev pub of_kind : NodeKind → Found → NodeKind → Result Found Stop
of_kind kinds.Dir found kinds.Dir = Ok found
of_kind kinds.File found kinds.File = Ok found
of_kind kinds.Dir found kinds.File = Err (Done endings.NotDir)
of_kind kinds.File found kinds.Dir = Err (Done endings.NotFile)

abbrev pub entry_of : NodeKind → Found → Result Found Stop
entry_of kind found = of_kind kind found found.kind

-- the entry of the name in a directory
abbrev pub entry_known : Geom → SeenValue → Parts → Body → List ℕ → NodeKind → Result Found Stop
entry_known g seen p dir name kind = after (wanted_entry g seen p dir name) (entry_of kind)

-- whether a body is of an object of this kind
abbrev pub is_of : NodeKind → Option NodeKind → Bool
is_of kinds.Dir (Some kinds.Dir) = true
is_of kinds.File (Some kinds.File) = true
is_of _ _ = false

-- a body that is in use as the entry says; one that isn't is odd
abbrev pub named_by : ℕ → NodeKind → Key → Body → Result Body Stop
named_by at kind key b = if (b.birth == key.birth) && is_of kind b.kind then Ok b else Err (Odd at)

-- the body of the entry's object, which is locked and read before; the entry's sub-block is odd where there is no such descriptor
abbrev pub body_named : Geom → SeenValue → Parts → NodeKind → Key → ℕ → Result Body Stop
body_named g seen p kind key sub =
    if nat_lt key.object (items_of g Fd)
    then (if has_lock seen key.object
    then after (body_seen g seen p key.object) (named_by (place_sector g (places.Body key.object)) kind key)
    else Err (Lock key.object))
    else Err (Odd (place_sector g (places.SubBlock sub)))

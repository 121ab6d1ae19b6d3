-- Bodies and sub-blocks as a planner sees them.
use Rattle.std.specs.Prelude.{ℕ, ◌==◌, ◌&&◌, nat_lt, is_some, if◌then◌else◌, Option, Some, None, Result, Ok, Err}
use Rattle.ds_base.specs.declared.geometry.Geom.{Geom}
use Rattle.ds_base.specs.declared.geometry.Kind.TheVariants.{Fd, Sb}
use Rattle.ds_base.specs.declared.names.Key.{Key}
use Rattle.ds_base.specs.declared.names.NodeKind.{NodeKind}
use Rattle.ds_base.specs.declared.names.NodeKind.TheVariants as kinds
use Rattle.ds_base.specs.declared.sectors.Sector.{Sector}
use Rattle.ds_base.specs.Geometry.{items_of}
use Rattle.ds_dir.specs.declared.sub_block.SubBlock.{SubBlock}
use Rattle.ds_fd.specs.declared.body.Body.{Body}
use Rattle.ds_image_parts.specs.Parts.{Parts, part_at}
use Rattle.ds_image.specs.SeenValues.{SeenValue, has_lock, look_of}
use Rattle.ds_layout.specs.Places.{place_sector}
use Rattle.ds_layout.specs.declared.places.Place.TheVariants as places
use Rattle.ds_plan_base.specs.Steps.{after}
use Rattle.ds_plan_base.specs.declared.stops.Ending.TheVariants as endings
use Rattle.ds_plan_base.specs.declared.stops.Stop.{Stop}
use Rattle.ds_plan_base.specs.declared.stops.Stop.TheVariants.{Lock, Read, Odd, Done}

-- what a sector spells, once it was read; one that spells nothing is odd
abbrev pub part_seen : {V : Type 0} → ℕ → Option Sector → Option V → Result V Stop
part_seen at None part = Err (Read at)
part_seen at (Some s) None = Err (Odd at)
part_seen at (Some s) (Some v) = Ok v

-- the body of a descriptor, once it was read
abbrev pub body_seen : Geom → SeenValue → Parts → ℕ → Result Body Stop
body_seen g seen p object =
    part_seen (place_sector g (places.Body object)) (look_of seen (place_sector g (places.Body object))) (part_at p.bodies object)

-- the body, where it is used and in the key's life; otherwise there is no such object
abbrev pub body_alive : Key → Body → Result Body Stop
body_alive key b = if (b.birth == key.birth) && is_some b.kind then Ok b else Err (Done endings.NoObject)

-- the body of a key's object, which is locked and read before
abbrev pub body_of_key : Geom → SeenValue → Parts → Key → Result Body Stop
body_of_key g seen p key =
    if nat_lt key.object (items_of g Fd)
    then (if has_lock seen key.object then after (body_seen g seen p key.object) (body_alive key) else Err (Lock key.object))
    else Err (Done endings.NoObject)

-- the body, where it is of a directory
abbrev pub dir_by : Body → Option NodeKind → Result Body Stop
dir_by b (Some kinds.Dir) = Ok b
dir_by b _ = Err (Done endings.NotDir)

abbrev pub body_of_dir : Body → Result Body Stop
body_of_dir b = dir_by b b.kind

-- the body of a key's directory
abbrev pub dir_of_key : Geom → SeenValue → Parts → Key → Result Body Stop
dir_of_key g seen p key = after (body_of_key g seen p key) body_of_dir

-- a sub-block that a body lists, once it was read; the body is odd where there is no such sub-block
abbrev pub sub_seen : Geom → SeenValue → Parts → Body → ℕ → Result SubBlock Stop
sub_seen g seen p b n =
    if nat_lt n (items_of g Sb)
    then part_seen (place_sector g (places.SubBlock n)) (look_of seen (place_sector g (places.SubBlock n))) (part_at p.subs n)
    else Err (Odd (place_sector g (places.Body b.object)))

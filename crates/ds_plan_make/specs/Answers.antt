-- What the planner of Mkdir and Create asks for and answers, by what was seen and by the parts that it spells.
use Rattle.std.specs.Prelude.{ℕ, ◌^◌, nat_le, is_some, if◌then◌else◌, List, Option, Some, None, Result, Ok, Err}
use Rattle.ds_base.specs.declared.geometry.Geom.{Geom}
use Rattle.ds_base.specs.declared.geometry.Kind.TheVariants.{Fd, Sb}
use Rattle.ds_base.specs.declared.names.Key.{Key}
use Rattle.ds_base.specs.declared.names.NodeKind.{NodeKind}
use Rattle.ds_plan_laws_new.specs.Entering.{make_call}
use Rattle.ds_fd.specs.declared.body.Body.{Body}
use Rattle.ds_image_parts.specs.Parts.{Parts}
use Rattle.ds_image.specs.Planning.{Answers}
use Rattle.ds_image.specs.SeenValues.{SeenValue, has_lock}
use Rattle.ds_image.specs.declared.asks.Ask.{Ask}
use Rattle.ds_image.specs.declared.asks.Ask.TheVariants.{Change}
use Rattle.ds_layout.specs.Places.{place_sector}
use Rattle.ds_layout.specs.declared.places.Place.TheVariants as places
use Rattle.ds_plan_base.specs.Items.{number_of, wanted_item}
use Rattle.ds_plan_make.specs.Redos.{new_object, pairs_filled, pairs_grown}
use Rattle.ds_plan_base.specs.Redos.{redo_of}
use Rattle.ds_plan_base.specs.Rooms.{room_for}
use Rattle.ds_plan_base.specs.Stops.{ask_of}
use Rattle.ds_plan_base.specs.declared.items.FreeItem.{FreeItem}
use Rattle.ds_plan_make.specs.declared.objects.NewObject.{NewObject}
use Rattle.ds_plan_make.specs.declared.making.Making.{Making}
use Rattle.ds_plan_base.specs.declared.rooms.FreeRoom.{FreeRoom}
use Rattle.ds_plan_base.specs.Bodies.{body_seen, dir_of_key}
use Rattle.ds_plan_base.specs.Steps.{after}
use Rattle.ds_plan_base.specs.declared.stops.Stop.{Stop}
use Rattle.ds_plan_base.specs.declared.stops.Stop.TheVariants.{Lock, Odd, Worn}
use Rattle.ds_tree.specs.declared.calls.CallOf.{CallOf}
use Rattle.ds_tree.specs.declared.calls.TreeReply.TheVariants.{Made}

-- a planner: the shape of its volume, its host's slot, the directory's key, and the name and the kind of the new object
pub record MakeValue : Type 0 where
  pub geom : Geom
  pub slot : ℕ
  pub dir : Key
  pub name : List ℕ
  pub kind : NodeKind

abbrev pub call_of : MakeValue → CallOf Key
call_of plan = make_call plan.kind plan.dir plan.name

-- a body that can begin a new life: one in use is odd, and one of the greatest birth is worn
abbrev pub unused_by : ℕ → ℕ → Body → Result Body Stop
unused_by at object b =
    if is_some b.kind then Err (Odd at) else if nat_le (2 ^ 62) b.birth then Err (Worn object) else Ok b

-- the body of a descriptor whose bit is clear, which is locked and read before
abbrev pub unused_body : Geom → SeenValue → Parts → ℕ → Result Body Stop
unused_body g seen p object =
    if has_lock seen object
    then after (body_seen g seen p object) (unused_by (place_sector g (places.Body object)) object)
    else Err (Lock object)

-- the change for a directory that has a free room, and for one that gets a sub-block
abbrev pub change_filled : Geom → NewObject → FreeRoom → Making
change_filled g new free = record { redo = redo_of (pairs_filled g new free); key = new.entry.key }

abbrev pub change_grown : Geom → Body → NewObject → FreeItem → Making
change_grown g dir new sub = record { redo = redo_of (pairs_grown g dir new sub); key = new.entry.key }

abbrev pub change_by : Geom → ℕ → SeenValue → Parts → Body → NewObject → Option FreeRoom → Result Making Stop
change_by g slot seen p dir new (Some free) = Ok (change_filled g new free)
change_by g slot seen p dir new None = after (wanted_item g slot seen p Sb) (λ sub. Ok (change_grown g dir new sub))

-- a new object is known once its directory, a free descriptor and its body are
abbrev pub object_known : Geom → ℕ → SeenValue → Parts → NodeKind → List ℕ → Result NewObject Stop
object_known g slot seen p kind name =
    after (wanted_item g slot seen p Fd) (λ item. after (unused_body g seen p (number_of g Fd item)) (λ before. Ok (new_object item before kind name)))

-- the change is known once the directory is, and a room for the object, and the object
abbrev pub change_known : Geom → ℕ → SeenValue → Parts → Key → List ℕ → NodeKind → Result Making Stop
change_known g slot seen p key name kind =
    after (dir_of_key g seen p key) (λ dir.
    after (room_for g seen p dir name) (λ free.
    after (object_known g slot seen p kind name) (λ new. change_by g slot seen p dir new free)))

abbrev pub changed : Result Making Stop → Ask
changed (Ok making) = Change making.redo (Made making.key)
changed (Err stop) = ask_of stop

-- what the planner asks for
abbrev pub answers_of : MakeValue → Answers
answers_of plan seen p = changed (change_known plan.geom plan.slot seen p plan.dir plan.name plan.kind)

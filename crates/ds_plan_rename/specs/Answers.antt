-- What the planner of Rename asks for and answers, by what was seen and by the parts that it spells.
use Rattle.std.specs.Prelude.{ℕ, ◌==◌, if◌then◌else◌, List, Option, Some, None, Result, Ok, Err, ⊤}
use Rattle.ds_base.specs.declared.geometry.Geom.{Geom}
use Rattle.ds_base.specs.declared.geometry.Kind.TheVariants.{Sb}
use Rattle.ds_base.specs.declared.names.Key.{Key}
use Rattle.ds_base.specs.declared.names.NodeKind.{NodeKind}
use Rattle.ds_base.specs.declared.names.NodeKind.TheVariants as kinds
use Rattle.ds_fd.specs.declared.body.Body.{Body}
use Rattle.ds_image_parts.specs.Parts.{Parts}
use Rattle.ds_image_parts.specs.Pending.{Pair}
use Rattle.ds_image.specs.Planning.{Answers}
use Rattle.ds_image.specs.SeenValues.{SeenValue}
use Rattle.ds_image.specs.declared.asks.Ask.{Ask}
use Rattle.ds_image.specs.declared.asks.Ask.TheVariants.{Change}
use Rattle.ds_layout.specs.Places.{place_sector}
use Rattle.ds_layout.specs.declared.places.Place.TheVariants as places
use Rattle.ds_plan_base.specs.Items.{number_of, wanted_item}
use Rattle.ds_plan_base.specs.Redos.{redo_of}
use Rattle.ds_plan_base.specs.Rooms.{room_for}
use Rattle.ds_plan_base.specs.Stops.{ask_of}
use Rattle.ds_plan_base.specs.declared.rooms.FreeRoom.{FreeRoom}
use Rattle.ds_plan_base.specs.Bodies.{dir_of_key}
use Rattle.ds_plan_base.specs.Entries.{wanted_entry}
use Rattle.ds_plan_base.specs.Steps.{after}
use Rattle.ds_plan_base.specs.declared.entries.Found.{Found}
use Rattle.ds_plan_base.specs.declared.stops.Ending.TheVariants as endings
use Rattle.ds_plan_base.specs.declared.stops.Stop.{Stop}
use Rattle.ds_plan_base.specs.declared.stops.Stop.TheVariants.{Odd, Done}
use Rattle.ds_plan_rename.specs.Entries.{entry_kept}
use Rattle.ds_plan_rename.specs.Redos.{pairs_kept, pairs_moved, pairs_grown}
use Rattle.ds_plan_rename.specs.declared.renaming.Moving.{Moving}
use Rattle.ds_tree.specs.declared.calls.CallOf.{CallOf}
use Rattle.ds_tree.specs.declared.calls.CallOf.TheVariants as calls
use Rattle.ds_tree.specs.declared.calls.TreeReply.TheVariants as replies

-- the call is a Rename
abbrev pub IsRename : CallOf Key → Type 0
IsRename (calls.Rename dir name to fresh) = ⊤
IsRename _ = ⊥

-- a planner: the shape of its volume, its host's slot, the entry's directory and name, and those that it is to get
pub record RenameValue : Type 0 where
  pub geom : Geom
  pub slot : ℕ
  pub dir : Key
  pub name : List ℕ
  pub to : Key
  pub fresh : List ℕ

abbrev pub call_of : RenameValue → CallOf Key
call_of plan = calls.Rename plan.dir plan.name plan.to plan.fresh

-- the change that these pairs are
abbrev pub moving : Found → List Pair → Moving
moving from pairs = record { redo = redo_of pairs; key = from.key }

-- inside one directory the entry keeps its room
abbrev pub kept_known : Geom → SeenValue → Parts → Body → List ℕ → List ℕ → Result Moving Stop
kept_known g seen p dir name fresh = after (entry_kept g seen p dir name fresh) (λ from. Ok (moving from (pairs_kept g from fresh)))

-- a sub-block for the entry, which isn't the one that it has: that one is listed by its own directory alone, and isn't free
abbrev pub other_sub : Geom → Found → ℕ → Result ℕ Stop
other_sub g from n = if from.sub == n then Err (Odd (place_sector g (places.SubBlock n))) else Ok n

-- in another directory it gets the first free room, or else the first of a new sub-block
abbrev pub moved_by : Geom → ℕ → SeenValue → Parts → Body → Found → List ℕ → Option FreeRoom → Result Moving Stop
moved_by g slot seen p to from fresh (Some free) = after (other_sub g from free.sub) (λ n. Ok (moving from (pairs_moved g from free fresh)))
moved_by g slot seen p to from fresh None =
    after (wanted_item g slot seen p Sb) (λ sub.
    after (other_sub g from (number_of g Sb sub)) (λ n. Ok (moving from (pairs_grown g from to sub fresh))))

-- so it does where it is a file's, no entry there has the new name, and that directory isn't full
abbrev pub moved_known : Geom → ℕ → SeenValue → Parts → Body → Found → List ℕ → NodeKind → Result Moving Stop
moved_known g slot seen p to from fresh kinds.Dir = Err (Done endings.CrossDir)
moved_known g slot seen p to from fresh kinds.File =
    after (room_for g seen p to fresh) (λ free. moved_by g slot seen p to from fresh free)

-- the change is known once both directories are, and the entry, and a room for it
abbrev pub change_known : Geom → ℕ → SeenValue → Parts → Key → List ℕ → Key → List ℕ → Result Moving Stop
change_known g slot seen p key name to_key fresh =
    after (dir_of_key g seen p key) (λ dir.
    after (dir_of_key g seen p to_key) (λ to.
    if key.object == to_key.object
    then kept_known g seen p dir name fresh
    else after (wanted_entry g seen p dir name) (λ from. moved_known g slot seen p to from fresh from.kind)))

abbrev pub changed : Result Moving Stop → Ask
changed (Ok moving) = Change moving.redo (replies.Moved moving.key)
changed (Err stop) = ask_of stop

-- what the planner asks for
abbrev pub answers_of : RenameValue → Answers
answers_of plan seen p = changed (change_known plan.geom plan.slot seen p plan.dir plan.name plan.to plan.fresh)

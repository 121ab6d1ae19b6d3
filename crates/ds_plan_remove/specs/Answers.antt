-- What the planner of Remove and Rmdir asks for and answers, by what was seen and by the parts that it spells.
use Rattle.std.specs.Prelude.{ℕ, Bool, true, false, is_some, if◌then◌else◌, List, [], ◌∷◌, ◌++◌, replicate, Option, Some, None, Result, Ok, Err}
use Rattle.std.specs.List.{list_any}
use Rattle.ds_base.specs.declared.geometry.Geom.{Geom}
use Rattle.ds_base.specs.declared.geometry.Kind.TheVariants.{Fd, Sb, Pb, Fb}
use Rattle.ds_base.specs.declared.names.Key.{Key}
use Rattle.ds_base.specs.declared.names.NodeKind.{NodeKind}
use Rattle.ds_base.specs.declared.names.NodeKind.TheVariants as kinds
use Rattle.ds_dir.specs.declared.sub_block.Entry.{Entry}
use Rattle.ds_fd.specs.declared.body.Body.{Body}
use Rattle.ds_plan_laws_gone.specs.Leaving.{go_call}
use Rattle.ds_image_parts.specs.Objects.{subs_of, ptrs_of}
use Rattle.ds_image_parts.specs.Parts.{Parts}
use Rattle.ds_image.specs.Planning.{Answers}
use Rattle.ds_image.specs.SeenValues.{SeenValue}
use Rattle.ds_image.specs.declared.asks.Ask.{Ask}
use Rattle.ds_image.specs.declared.asks.Ask.TheVariants.{Change}
use Rattle.ds_jrnl.specs.declared.redo.Redo.{Redo}
use Rattle.ds_layout.specs.Places.{place_sector}
use Rattle.ds_layout.specs.declared.places.Place.TheVariants as places
use Rattle.ds_plan_base.specs.Bodies.{dir_of_key, sub_seen}
use Rattle.ds_plan_base.specs.Giving.{given_up}
use Rattle.ds_plan_base.specs.Redos.{block_emptied, body_pair, sub_pair}
use Rattle.ds_plan_base.specs.Steps.{after}
use Rattle.ds_plan_base.specs.Stops.{ask_of}
use Rattle.ds_plan_base.specs.declared.entries.Found.{Found}
use Rattle.ds_plan_base.specs.declared.stops.Ending.TheVariants as endings
use Rattle.ds_plan_base.specs.declared.stops.Stop.{Stop}
use Rattle.ds_plan_base.specs.declared.stops.Stop.TheVariants.{Done}
use Rattle.ds_plan_remove.specs.Blocks.{blocks_known}
use Rattle.ds_plan_remove.specs.Entries.{entry_known, body_named}
use Rattle.ds_plan_remove.specs.declared.removing.Removing.{Removing}
use Rattle.ds_tree.specs.declared.calls.CallOf.{CallOf}
use Rattle.ds_tree.specs.declared.calls.CallOf.TheVariants as calls
use Rattle.ds_tree.specs.declared.calls.TreeReply.TheVariants as replies

-- a planner: the shape of its volume, its host's slot, the directory's key, and the name and the kind of the object that goes
pub record RemoveValue : Type 0 where
  pub geom : Geom
  pub slot : ℕ
  pub dir : Key
  pub name : List ℕ
  pub kind : NodeKind

abbrev pub call_of : RemoveValue → CallOf Key
call_of plan = go_call plan.kind plan.dir plan.name

-- whether the call takes an object away
abbrev pub takes_object : CallOf Key → Bool
takes_object (calls.Remove dir name) = true
takes_object (calls.Rmdir dir name) = true
takes_object _ = false

-- whether a room of a sub-block has an entry
abbrev pub has_entry : List (Option Entry) → Bool
has_entry rooms = list_any (λ room. is_some room) rooms

-- a directory is known to be empty once each of these sub-blocks was read; an entry in one refuses the call
abbrev pub empty_from : Geom → SeenValue → Parts → Body → List ℕ → Result Body Stop
empty_from g seen p b [] = Ok b
empty_from g seen p b (n ∷ subs) =
    after (sub_seen g seen p b n) (λ block.
    if has_entry block.rooms then Err (Done endings.NotEmpty) else empty_from g seen p b subs)

-- nothing is written yet
abbrev pub nothing : Redo
nothing = record { pairs = record { items = [] } }

-- the bitmaps without a directory and its sub-blocks
abbrev pub dir_given : Geom → SeenValue → Parts → Body → Result Redo Stop
dir_given g seen p b =
    after (empty_from g seen p b (subs_of (Some b))) (λ empty.
    after (given_up g seen p Fd (b.object ∷ []) (place_sector g (places.Body b.object)) nothing) (λ redo.
    given_up g seen p Sb (subs_of (Some b)) (place_sector g (places.Body b.object)) redo))

-- the bitmaps without a file, its pointer blocks and its blocks
abbrev pub file_given : Geom → SeenValue → Parts → Body → Result Redo Stop
file_given g seen p b =
    after (blocks_known g seen p b) (λ blocks.
    after (given_up g seen p Fd (b.object ∷ []) (place_sector g (places.Body b.object)) nothing) (λ redo.
    after (given_up g seen p Pb (ptrs_of (Some b)) (place_sector g (places.Body b.object)) redo) (λ more.
    given_up g seen p Fb blocks.items (place_sector g (places.Body b.object)) more)))

abbrev pub object_given : Geom → SeenValue → Parts → NodeKind → Body → Result Redo Stop
object_given g seen p kinds.Dir b = dir_given g seen p b
object_given g seen p kinds.File b = file_given g seen p b

-- the body of a descriptor that is no longer in use
abbrev pub ended : Body → Body
ended b = record { object = b.object; kind = None; links = 0; birth = b.birth; count = 0; addresses = replicate 96 0 }

-- what is written: the bitmaps, the object's body, and the sub-block without the entry
abbrev pub with_ended : Geom → Redo → Body → Found → Redo
with_ended g redo b found =
    record { pairs = record { items = (redo.pairs.items ++ body_pair g (ended b) ∷ []) ++ sub_pair g found.sub (block_emptied found) ∷ [] } }

-- the change is known once the directory is, and the entry, and the object and all that it gives up
abbrev pub change_known : Geom → SeenValue → Parts → Key → List ℕ → NodeKind → Result Removing Stop
change_known g seen p key name kind =
    after (dir_of_key g seen p key) (λ dir.
    after (entry_known g seen p dir name kind) (λ found.
    after (body_named g seen p kind found.key found.sub) (λ b.
    after (object_given g seen p kind b) (λ redo. Ok (record { redo = with_ended g redo b found; key = found.key })))))

abbrev pub changed : Result Removing Stop → Ask
changed (Ok removing) = Change removing.redo (replies.Gone removing.key)
changed (Err stop) = ask_of stop

-- what the planner asks for
abbrev pub answers_of : RemoveValue → Answers
answers_of plan seen p = changed (change_known plan.geom seen p plan.dir plan.name plan.kind)

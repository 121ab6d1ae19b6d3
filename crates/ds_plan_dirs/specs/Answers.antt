-- What the planner of a call that reads names asks for and answers, by what was seen and by the parts that it spells.
use Rattle.std.specs.Prelude.{ℕ, List, Option, Some, None, Result, Ok, ⊤}
use Rattle.ds_base.specs.declared.geometry.Geom.{Geom}
use Rattle.ds_base.specs.declared.names.Key.{Key}
use Rattle.ds_fd.specs.declared.body.Body.{Body}
use Rattle.ds_image_parts.specs.Objects.{subs_of, used_rooms}
use Rattle.ds_image_parts.specs.Parts.{Parts}
use Rattle.ds_image.specs.Planning.{Answers}
use Rattle.ds_image.specs.SeenValues.{SeenValue}
use Rattle.ds_plan_dirs.specs.declared.reading.ReadCall.{ReadCall}
use Rattle.ds_plan_dirs.specs.declared.reading.ReadCall.TheVariants as kept
use Rattle.ds_plan_dirs.specs.Pages.{page_of}
use Rattle.ds_plan_base.specs.Bodies.{dir_of_key}
use Rattle.ds_plan_base.specs.Entries.{found_in, subs_known}
use Rattle.ds_plan_base.specs.Steps.{after, settled}
use Rattle.ds_plan_base.specs.declared.entries.Found.{Found}
use Rattle.ds_plan_base.specs.declared.stops.Stop.{Stop}
use Rattle.ds_tree.specs.declared.calls.CallOf.{CallOf}
use Rattle.ds_tree.specs.declared.calls.CallOf.TheVariants as calls
use Rattle.ds_tree.specs.declared.calls.TreeReply.{TreeReply}
use Rattle.ds_tree.specs.declared.calls.TreeReply.TheVariants as replies

-- the calls that read the names of a directory
abbrev pub IsRead : CallOf Key → Type 0
IsRead (calls.Lookup dir name) = ⊤
IsRead (calls.List dir after) = ⊤
IsRead _ = ⊥

-- a planner: the shape of its volume, its host's slot, and its call
pub record ReadsValue : Type 0 where
  pub geom : Geom
  pub slot : ℕ
  pub call : ReadCall

abbrev pub call_of : ReadCall → CallOf Key
call_of (kept.Lookup dir name) = calls.Lookup dir name
call_of (kept.List dir after) = calls.List dir after

-- the reply for an entry that was found, or for none
abbrev pub lookup_reply : Option Found → TreeReply
lookup_reply None = replies.NotFound
lookup_reply (Some found) = replies.Found found.key found.kind

-- a Lookup knows its reply once it knows the directory, and the entry there
abbrev pub lookup_known : Geom → SeenValue → Parts → Key → List ℕ → Result TreeReply Stop
lookup_known g seen p dir name =
    after (dir_of_key g seen p dir) (λ b. after (found_in g seen p b name) (λ found. Ok (lookup_reply found)))

-- a page of a directory with these sub-blocks is known once all of them are
abbrev pub page_known : Geom → SeenValue → Parts → Option (List ℕ) → Body → List ℕ → Result TreeReply Stop
page_known g seen p above b subs = after (subs_known g seen p b subs) (λ _. Ok (page_of above (used_rooms p subs)))

-- a List knows its reply once it knows the directory, and the page there
abbrev pub list_known : Geom → SeenValue → Parts → Key → Option (List ℕ) → Result TreeReply Stop
list_known g seen p dir above = after (dir_of_key g seen p dir) (λ b. page_known g seen p above b (subs_of (Some b)))

-- so does each call
abbrev pub known_by : Geom → SeenValue → Parts → ReadCall → Result TreeReply Stop
known_by g seen p (kept.Lookup dir name) = lookup_known g seen p dir name
known_by g seen p (kept.List dir above) = list_known g seen p dir above

-- what the planner asks for
abbrev pub answers_of : ReadsValue → Answers
answers_of plan seen p = settled (known_by plan.geom seen p plan.call)

-- What contracts see of the first world, and what holds of it after any turns.
use Rattle.std.specs.Prelude.{◌≡◌, ℕ, ◌+◌, ◌-◌, ◌*◌, ◌≤◌, ◌<◌, ◌⊎◌, nat_lt, Bool, true, false, List, [], ◌∷◌, ◌++◌, length, map, drop, replicate, count_by, slice_get, Option, Some, None, MatchOption, if◌then◌else◌}
use Rattle.ds_base.specs.declared.sectors.Sector.{Sector}
use Rattle.ds_base.specs.declared.commands.Command.{Command}
use Rattle.ds_base.specs.declared.commands.Response.{Response}
use Rattle.ds_base.specs.Names.{IsName}
use Rattle.ds_tree.specs.declared.calls.CallOf.TheVariants as calls
use Rattle.ds_base.specs.declared.names.Key.{Key}
use Rattle.ds_tree.specs.declared.calls.HostCallOf.{HostCallOf}
use Rattle.ds_tree.specs.declared.calls.HostCallOf.TheVariants as host_calls
use Rattle.ds_tree.specs.declared.scenarios.Directive.{Directive}
use Rattle.ds_tree.specs.declared.scenarios.Directive.TheVariants as directives
use Rattle.ds_tree.specs.declared.scenarios.Scenario.{Scenario}
use Rattle.ds_tree.specs.declared.variables.Spoken.TheVariants.{Root}
use Rattle.ds_tree.specs.Nodes.{FileTree}
use Rattle.ds_tree.specs.WellFormed.{IsTree}
use Rattle.ds_tree.specs.FirstForm.{register, first_geom, is_create, IsFirstForm}
use Rattle.ds_dir.specs.declared.sub_block.Entry.{Entry}
use Rattle.ds_dir.specs.declared.sub_block.SubBlock.{SubBlock}
use Rattle.ds_conduct.specs.declared.answers.HostAnswer.{HostAnswer}
use Rattle.ds_conduct.specs.declared.answers.HostAnswer.TheVariants.{Tree}
use Rattle.ds_host.specs.declared.first_host.RootCall.{RootCall}
use Rattle.ds_host.specs.declared.first_host.RootCall.TheVariants.{Create, Lookup}
use Rattle.ds_host.specs.declared.first_host.Stage.{Stage}
use Rattle.ds_host.specs.declared.first_host.Stage.TheVariants.{Rest, Reading, Filling}
use Rattle.ds_host.specs.FirstStates.{FirstState}
use Rattle.ds_host.specs.Rooms.{entry_named, with_entry, next_key, file_entry}
use Rattle.ds_host.specs.FirstConduct.{SpellsRooms, tree_call}
use Rattle.ds_log.specs.declared.logs.Step.TheVariants.{Local, Sent}
use Rattle.ds_log.specs.declared.logs.Event.{Event}
use Rattle.ds_log.specs.declared.logs.Reply.{Reply}
use Rattle.ds_log.specs.declared.moves.Moved.{Moved}
use Rattle.ds_log.specs.declared.moves.Moved.TheVariants as moved
use Rattle.ds_log.specs.LogValues.{LogValue}
use Rattle.ds_log.specs.Store.{store, change_count}
use Rattle.ds_log.specs.Moments.{AtEveryMoment}
use Rattle.ds_log.specs.History.{Change, IsWholeOrNot, IsLegal}
use Rattle.ds_log.specs.Headline.{StandsAfter}
use Rattle.ds_log.specs.Scripts.{list_of, calls_of}
use Rattle.ds_log.specs.Follows.{is_event_of, finished, held, Follows}
use Rattle.ds_world.specs.FirstRules.{NumberedFrom, first_rules, tree_of}

-- the scenario, the number of directives that its host has finished, the host, the sectors of the device, the number of
-- commits, the log, and for how many turns there is room
pub record FirstWorldValue : Type 0 where
  pub scenario : Scenario
  pub position : ℕ
  pub host : FirstState
  pub device : List Sector
  pub commits : ℕ
  pub log : LogValue
  pub room : ℕ

-- the turns that are left at the most: two for each directive, less one for a call that has read
abbrev pub turns_at : Stage → ℕ
turns_at Rest = 2
turns_at (Reading call) = 2
turns_at (Filling name key verify fresh) = 1

abbrev pub turns_left : FirstWorldValue → ℕ
turns_left w = 2 * (length (list_of w.scenario 0) - w.position) + turns_at w.host.stage

abbrev pub root_directive : RootCall → Directive
root_directive (Create name) = directives.Call (host_calls.Tree (calls.Create Root name)) None
root_directive (Lookup name) = directives.Call (host_calls.Tree (calls.Lookup Root name)) None

abbrev pub name_of : RootCall → List ℕ
name_of (Create name) = name
name_of (Lookup name) = name

-- a call of the host is that of its next directive
pub record IsUnderWay (w : FirstWorldValue) (call : RootCall) : Type 0 where
  pub due : slice_get (list_of w.scenario 0) w.position ≡ Some (root_directive call)
  pub registered : w.host.registered ≡ true
  pub is_name : IsName (name_of call)

-- the image to be swapped in is that of the sub-block with one entry more
pub record IsFilling (w : FirstWorldValue) (sector : Sector) (block : SubBlock) (name : List ℕ) (verify fresh : Sector) : Type 0 where
  pub under_way : IsUnderWay w (Create name)
  pub verified : verify ≡ sector
  pub absent : entry_named name block.rooms ≡ None
  pub spelled : SpellsRooms fresh (record { rooms = with_entry (file_entry name (next_key block.rooms)) block.rooms })

-- how far the host is
abbrev pub StageHolds : FirstWorldValue → Sector → SubBlock → Stage → Type 0
StageHolds w sector block Rest = Unit {0}
StageHolds w sector block (Reading call) = IsUnderWay w call
StageHolds w sector block (Filling name key verify fresh) = (key ≡ next_key block.rooms) × IsFilling w sector block name verify fresh

-- the commands that the call under way has sent
abbrev pub sent_at : Stage → ℕ
sent_at Rest = 0
sent_at (Reading call) = 0
sent_at (Filling name key verify fresh) = 1

-- the device holds these entries in its first rooms
pub record HoldsEntries (device : List Sector) (sector : Sector) (block : SubBlock) (entries : List Entry) (free : ℕ) : Type 0 where
  pub one : device ≡ sector ∷ []
  pub spelled : SpellsRooms sector block
  pub packed : block.rooms ≡ map Some entries ++ replicate free None
  pub four : length entries + free ≡ 4

-- the events, replies and changes are the host's, in directives that it has finished or is in
pub record AreReached (position : ℕ) (events : List Event) (replies : List Reply) (changes : List Change) : Type 0 where
  pub events_reach : (i : ℕ) (e : Event) → slice_get events i ≡ Some e → (e.host ≡ 0) × (e.directive ≤ position + 1)
  pub replies_reach : (i : ℕ) (r : Reply) → slice_get replies i ≡ Some r → (r.host ≡ 0) × (r.directive ≤ position)
  pub changes_reach : (i : ℕ) (c : Change) → slice_get changes i ≡ Some c → (c.host ≡ 0) × (c.directive ≤ position)

-- the world with other values, and no room
abbrev pub stepped : FirstWorldValue → ℕ → FirstState → List Sector → ℕ → List Event → List Reply → FirstWorldValue
stepped w position host device commits events replies = record {
  scenario = w.scenario;
  position = position;
  host = host;
  device = device;
  commits = commits;
  log = record { events = events; replies = replies; spare = 0 };
  room = 0;
}

-- a command of the call under way
abbrev pub sent_event : FirstWorldValue → Command → Response → Bool → Event
sent_event w command response took = record {
  host = 0;
  at = 0;
  directive = w.position + 1;
  step = Sent (Some (0, 1)) command response true took;
  dies = false;
}

-- a directive that is answered at once
abbrev pub local_event : FirstWorldValue → Event
local_event w = record { host = 0; at = 0; directive = w.position + 1; step = Local; dies = false }

-- an answer in the event that comes next
abbrev pub reply_now : FirstWorldValue → HostAnswer → Option ℕ → Reply
reply_now w answer place = record {
  event = length w.log.events;
  host = 0;
  directive = w.position + 1;
  answer = answer;
  place = place;
}

-- what holds of the first world after any turns
pub record FirstHolds (w : FirstWorldValue) : Type 0 where
  pub form : IsFirstForm w.scenario
  pub within : w.position ≤ length (list_of w.scenario 0)
  pub sector : Sector
  pub block : SubBlock
  pub entries : List Entry
  pub free : ℕ
  pub holds : HoldsEntries w.device sector block entries free
  pub numbered : NumberedFrom 1 entries
  pub rules : IsTree first_geom (tree_of first_geom entries)
  pub room : length entries + count_by is_create (drop w.position (list_of w.scenario 0)) ≤ 4
  pub is_store : w.device ≡ store first_rules.start w.log.events
  pub trees : List FileTree
  pub changes : List Change
  pub latest : slice_get trees (length changes) ≡ Some (tree_of first_geom entries)
  pub changed : length changes ≡ length entries
  pub counted : w.commits ≡ length entries
  pub taken : change_count w.log.events ≡ length changes
  pub whole : IsWholeOrNot first_rules (calls_of w.scenario []) w.log.events w.log.replies changes
  pub legal : IsLegal first_rules first_geom (calls_of w.scenario []) w.log.events w.log.replies trees changes
  pub image : AtEveryMoment (StandsAfter first_rules trees) w.log.events
  pub follows : Follows first_rules.start w.scenario w.log.events w.log.replies
  pub done : (n : ℕ) → length w.log.events ≤ n → finished w.log.replies 0 n ≡ w.position
  pub own : (n : ℕ) → length w.log.events ≤ n → held w.log.replies 0 n ≡ (if w.host.registered then Some (0, 1) else None)
  pub registered : w.host.registered ≡ nat_lt 0 w.position
  pub reached : AreReached w.position w.log.events w.log.replies changes
  pub sent : count_by (is_event_of 0 (w.position + 1)) w.log.events ≡ sent_at w.host.stage
  pub stage : StageHolds w sector block w.host.stage

-- the two differ at most in room
pub record IsSameButRoom (old new : FirstWorldValue) : Type 0 where
  pub same_scenario : new.scenario ≡ old.scenario
  pub same_position : new.position ≡ old.position
  pub same_host : new.host ≡ old.host
  pub same_device : new.device ≡ old.device
  pub same_commits : new.commits ≡ old.commits
  pub same_events : new.log.events ≡ old.log.events
  pub same_replies : new.log.replies ≡ old.log.replies

-- a turn that added an event, and at most one reply
pub record AddsEvent (old new : FirstWorldValue) : Type 0 where
  pub was_due : old.position < length (list_of old.scenario 0)
  pub event : Event
  pub added : new.log.events ≡ old.log.events ++ event ∷ []
  pub replied : (new.log.replies ≡ old.log.replies) ⊎ ((reply : Reply) × (new.log.replies ≡ old.log.replies ++ reply ∷ []))
  pub same_scenario : new.scenario ≡ old.scenario
  pub fewer : turns_left new < turns_left old

-- what a turn did: it adds an event while the host's list isn't at its end, and nothing once it is
abbrev pub Turns : FirstWorldValue → Moved → FirstWorldValue → Type 0
Turns old moved.Event new = AddsEvent old new
Turns old moved.Resting new = ⊥
Turns old moved.Ended new = (length (list_of old.scenario 0) ≤ old.position) × (new ≡ old)

-- the call that a directive asks for
abbrev pub AsksFor : Directive → HostCallOf Key → Type 0
AsksFor d host_calls.Register = d ≡ register
AsksFor d (host_calls.Tree call) = (c : RootCall) × (d ≡ root_directive c) × (call ≡ tree_call c) × IsName (name_of c)
AsksFor d _ = ⊥

-- the call that is due, if any is
abbrev pub IsDue : List Directive → ℕ → Option (HostCallOf Key) → Type 0
IsDue list position due = MatchOption due (length list ≤ position) (λ call. (d : Directive) × (slice_get list position ≡ Some d) × AsksFor d call)

-- the place of an answer of the file tree, and of no other
abbrev pub place_of : HostAnswer → ℕ → Option ℕ
place_of (Tree reply) place = Some place
place_of _ place = None

abbrev pub IsReading : FirstState → Type 0
IsReading host = (call : RootCall) × (host.stage ≡ Reading call)

abbrev pub IsSwapping : FirstState → Type 0
IsSwapping host = (name : List ℕ) × ((key : Key) × ((verify : Sector) × ((fresh : Sector) × (host.stage ≡ Filling name key verify fresh))))

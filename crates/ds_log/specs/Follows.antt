-- A log follows a scenario.
use Rattle.std.specs.Prelude.{◌≡◌, ℕ, zero, suc, ◌+◌, ◌≤◌, ◌<◌, ◌==◌, ◌&&◌, Bool, true, false, nat_lt, List, [], ◌∷◌, length, take, drop, fold, count_by, slice_get, All, Option, Some, None, if◌then◌else◌}
use Rattle.std.specs.List.{sum_by}
use Rattle.ds_base.specs.declared.sectors.Sector.{Sector}
use Rattle.ds_base.specs.declared.commands.Command.{Command}
use Rattle.ds_base.specs.declared.commands.Response.{Response}
use Rattle.ds_base.specs.Device.{Answers, takes_effect}
use Rattle.ds_tree.specs.declared.calls.HostCallOf.TheVariants as host_calls
use Rattle.ds_tree.specs.declared.scenarios.Directive.{Directive}
use Rattle.ds_tree.specs.declared.scenarios.Directive.TheVariants as directives
use Rattle.ds_tree.specs.declared.scenarios.Scenario.{Scenario}
use Rattle.ds_conduct.specs.declared.answers.HostAnswer.{HostAnswer}
use Rattle.ds_conduct.specs.declared.answers.HostAnswer.TheVariants.{Registered}
use Rattle.ds_log.specs.declared.logs.Step.{Step}
use Rattle.ds_log.specs.declared.logs.Step.TheVariants.{Local, Sent}
use Rattle.ds_log.specs.declared.logs.Event.{Event}
use Rattle.ds_log.specs.declared.logs.Reply.{Reply}
use Rattle.ds_log.specs.Store.{store}
use Rattle.ds_log.specs.Moments.{EachEvent}
use Rattle.ds_log.specs.History.{IsGiven}
use Rattle.ds_log.specs.Scripts.{list_of, directive_at, ticks_of}

abbrev pub is_reply_before : ℕ → ℕ → Reply → Bool
is_reply_before host n r = r.host == host && nat_lt r.event n

-- how many directives a host has finished before the event with this index: a call is finished at its reply
abbrev pub finished : List Reply → ℕ → ℕ → ℕ
finished replies host n = count_by (is_reply_before host n) replies

-- the generation that an answer gives to its host, or the one before
abbrev pub generation_given : HostAnswer → Option (ℕ × ℕ) → Option (ℕ × ℕ)
generation_given (Registered slot generation) before = Some (slot, generation)
generation_given _ before = before

abbrev pub holding : ℕ → ℕ → Option (ℕ × ℕ) → Reply → Option (ℕ × ℕ)
holding host n own r = if is_reply_before host n r then generation_given r.answer own else own

-- the slot and generation that a host holds at the event with this index
abbrev pub held : List Reply → ℕ → ℕ → Option (ℕ × ℕ)
held replies host n = fold (holding host n) None replies

-- the clock after these events
abbrev pub clock : Scenario → List Event → ℕ
clock s past = sum_by (λ e. ticks_of (directive_at s e.host e.directive)) past

-- the event gives a reply
abbrev pub GivesReply : List Reply → ℕ → Type 0
GivesReply replies n = (i : ℕ) × ((r : Reply) × (slice_get replies i ≡ Some r) × (r.event ≡ n))

abbrev pub is_event_of : ℕ → ℕ → Event → Bool
is_event_of host directive e = e.host == host && e.directive == directive

-- a command of a call, sent under the generation held, which lands and answers as the device does
pub record IsCommand (start : List Sector) (replies : List Reply) (past : List Event) (e : Event) (under : Option (ℕ × ℕ))
    (command : Command) (response : Response) (landed took : Bool) : Type 0 where
  pub holds : under ≡ held replies e.host (length past)
  pub lands : landed ≡ true
  pub answers : Answers (store start past) command response
  pub effect : took ≡ takes_effect (store start past) command
  pub few : count_by (is_event_of e.host e.directive) past < 4096

-- a step carries out a directive: a registration is answered without a command, and each event of a tree call is a command
abbrev pub Carries : List Sector → List Reply → List Event → Event → Directive → Step → Type 0
Carries start replies past e (directives.Call host_calls.Register bind) Local = GivesReply replies (length past)
Carries start replies past e (directives.Call (host_calls.Tree call) bind) (Sent under command response landed took) =
    IsCommand start replies past e under command response landed took
Carries start replies past e _ _ = ⊥

-- an event is the next of its host: it carries out the first directive that the host hasn't finished
pub record IsNext (start : List Sector) (s : Scenario) (replies : List Reply) (past : List Event) (e : Event) : Type 0 where
  pub directive : Directive
  pub due : slice_get (list_of s e.host) (finished replies e.host (length past)) ≡ Some directive
  pub number : e.directive ≡ finished replies e.host (length past) + 1
  pub carries : Carries start replies past e directive e.step
  pub tick : e.at ≡ clock s past
  pub lives : e.dies ≡ false

-- each event is the next of its host, and each reply is given in an event of its call, the replies in the order of their events
pub record Follows (start : List Sector) (s : Scenario) (events : List Event) (replies : List Reply) : Type 0 where
  pub next : EachEvent (IsNext start s replies) events
  pub given : (i : ℕ) (r : Reply) → slice_get replies i ≡ Some r → IsGiven events r
  pub rising : (i j : ℕ) (q r : Reply) → i < j → slice_get replies i ≡ Some q → slice_get replies j ≡ Some r → q.event < r.event

-- every host is at the end of its list
abbrev pub IsAtEnd : Scenario → List Event → List Reply → Type 0
IsAtEnd s events replies = (host : ℕ) → finished replies host (length events) ≡ length (list_of s host)

abbrev pub AreOf : ℕ → List Event → Type 0
AreOf host events = All (λ e. e.host ≡ host) events

abbrev pub NoneOf : ℕ → List Event → Type 0
NoneOf host events = All (λ e. e.host ≡ host → ⊥) events

-- from this host on, so many hosts make all their turns, one host after another
abbrev pub InDrain : ℕ → ℕ → List Event → Type 0
InDrain host zero events = events ≡ []
InDrain host (suc left) events =
    (n : ℕ) × AreOf host (take n events) × NoneOf host (drop n events) × InDrain (host + 1) left (drop n events)

-- the order of a replay of so many hosts that never rest: each step line gives a host so many turns, fewer only where its
-- list ends; then the hosts make the turns that are left, one host after another
abbrev pub InReplayOrder : ℕ → List (ℕ × ℕ) → List Event → Type 0
InReplayOrder hosts [] events = InDrain 0 hosts events
InReplayOrder hosts (step ∷ steps) events = (n : ℕ) × (n ≤ step.1) × AreOf step.0 (take n events)
    × (n < step.1 → NoneOf step.0 (drop n events)) × InReplayOrder hosts steps (drop n events)

-- A log follows a scenario.
use Rattle.std.specs.Prelude.{◌≡◌, ℕ, suc, ◌<◌, ◌&&◌, ◌||◌, Bool, true, false, List, [], ◌∷◌, ◌++◌, length, slice_get, Option, Some, None}
use Rattle.std.specs.List.{sum_by}
use Rattle.std.specs.Option.{is_some}
use Rattle.ds_base.specs.Device.{Answers, takes_effect}
use Rattle.ds_base.specs.declared.commands.Command.{Command}
use Rattle.ds_base.specs.declared.commands.Response.{Response}
use Rattle.ds_base.specs.declared.commands.Response.TheVariants.{Fault}
use Rattle.ds_base.specs.declared.sectors.Sector.{Sector}
use Rattle.ds_tree.specs.declared.scenarios.Directive.{Directive}
use Rattle.ds_tree.specs.declared.scenarios.Directive.TheVariants as directives
use Rattle.ds_tree.specs.declared.scenarios.Scenario.{Scenario}
use Rattle.ds_conduct.specs.declared.answers.HostAnswer.TheVariants.{LeaseLost}
use Rattle.ds_log.specs.Moments.{Each}
use Rattle.ds_log.specs.Scripts.{directive_at, ticks_of}
use Rattle.ds_log.specs.Store.{store}
use Rattle.ds_log.specs.declared.logs.Event.{Event}
use Rattle.ds_log.specs.declared.logs.Reply.{Reply}
use Rattle.ds_log.specs.declared.logs.Step.{Step}
use Rattle.ds_log.specs.declared.logs.Step.TheVariants.{Local, Sent}
use Rattle.ds_log_order.specs.HostFacts.{HostFacts, is_carried_out, is_hit}
use Rattle.ds_log_order.specs.LogProgress.{progress, progresses}
use Rattle.ds_log_order.specs.Progress.{crashes, fails}
use Rattle.ds_log_order.specs.Told.{Told, events_of, told}
use Rattle.ds_log_order.specs.Waiting.{HasEnded, IsGoing}
use Rattle.ds_log_order.specs.declared.progress.Progress.{Progress}

-- the clock after these events: the sum of the ticks by which they moved it on
abbrev pub clock : Scenario → List Told → ℕ
clock s past = sum_by (λ (t : Told). ticks_of (directive_at s t.event.host t.event.directive)) past

-- whether a directive is a call
abbrev pub is_call : Directive → Bool
is_call (directives.Call call bind) = true
is_call _ = false

-- whether a directive is a death
abbrev pub is_death : Directive → Bool
is_death directives.Die = true
is_death _ = false

-- the sectors answer a command as devices do, but for one at which a fault bites: it answers Fault, and lands as it is set
abbrev pub AnswersBy : Option Bool → List Sector → Command → Response → Bool → Bool → Type 0
AnswersBy None sectors command response landed took =
    (landed ≡ true) × Answers sectors command response × (took ≡ takes_effect sectors command)
AnswersBy (Some lands) sectors command response landed took =
    (landed ≡ lands) × (response ≡ Fault) × (took ≡ (lands && takes_effect sectors command))

-- a call may have an event without a command: the call is answered in it at its beginning, or by `LeaseLost`, or it is in its
-- tail and a write comes too late
pub data IsWithout (facts : HostFacts) (past : List Told) (p : Progress) (t : Told) : Type 0 where
  AtOnce : p.calling ≡ false → is_some t.reply ≡ true → IsWithout facts past p t
  TooLate : (r : Reply) (at last : ℕ) → t.reply ≡ Some r → r.answer ≡ LeaseLost at last → IsWithout facts past p t
  InTail : p.answered ≡ true → facts.is_late past t.event ≡ true → IsWithout facts past p t

-- a command of a call, sent under the generation held, as one of the at most 4096 of the call and its tail
pub record IsCommand (facts : HostFacts) (start : List Sector) (past : List Told) (p : Progress) (e : Event)
    (under : Option (ℕ × ℕ)) (command : Command) (response : Response) (landed took : Bool) : Type 0 where
  pub holds : under ≡ facts.held past e.host
  pub few : p.sent < 4096
  pub answers : AnswersBy (fails p.arm (is_hit facts p.arm e)) (store start (events_of past)) command response landed took
  pub dies : e.dies ≡ crashes p.arm (is_hit facts p.arm e) (is_carried_out e.step)

-- a step of a call, which ends with the step or goes on
abbrev pub IsCallStep : HostFacts → List Sector → List Told → Progress → Told → Bool → Step → Type 0
IsCallStep facts start past p t ends Local = IsWithout facts past p t × (ends ≡ true) × (t.event.dies ≡ false)
IsCallStep facts start past p t ends (Sent under command response landed took) =
    IsCommand facts start past p t.event under command response landed took

-- a call has one reply, and ends with none only where its host dies
pub record IsAnsweredOnce (p : Progress) (t : Told) (ends : Bool) : Type 0 where
  pub once : p.answered ≡ true → t.reply ≡ None
  pub answered : ends ≡ true → t.event.dies ≡ false → (p.answered || is_some t.reply) ≡ true

-- an event carries out a directive, or goes on with it
abbrev pub Carries : HostFacts → List Sector → List Told → Progress → Told → Bool → Directive → Type 0
Carries facts start past p t ends (directives.Call call bind) =
    IsCallStep facts start past p t ends t.event.step × IsAnsweredOnce p t ends
Carries facts start past p t ends directive = (t.event.step ≡ Local) × (t.reply ≡ None) × (t.event.dies ≡ is_death directive)

-- a reply that is given in an event is one to its call
pub record IsReplyIn (n : ℕ) (e : Event) (r : Reply) : Type 0 where
  pub event : r.event ≡ n
  pub host : r.host ≡ e.host
  pub directive : r.directive ≡ e.directive

-- an event is the next of its host: it carries out the first directive that the host hasn't finished, for which it needn't rest
pub record IsNext (facts : HostFacts) (start : List Sector) (s : Scenario) (past : List Told) (t : Told) : Type 0 where
  pub directive : Directive
  pub going : IsGoing s.hosts (progresses facts s.hosts past) t.event.host directive
  pub number : t.event.directive ≡ suc (progress facts s.hosts t.event.host past).finished
  pub carries : Carries facts start past (progress facts s.hosts t.event.host past) t
      (facts.rests (past ++ t ∷ []) t.event.host) directive
  pub tick : t.event.at ≡ clock s past
  pub replied : (r : Reply) → t.reply ≡ Some r → IsReplyIn (length past) t.event r

-- each event is the next of its host
abbrev pub IsFollowing : HostFacts → List Sector → Scenario → List Told → Type 0
IsFollowing facts start s log = Each (IsNext facts start s) log

-- every host is at the end of its list
abbrev pub AllEnded : HostFacts → Scenario → List Told → Type 0
AllEnded facts s log = (host : ℕ) → HasEnded s.hosts (progresses facts s.hosts log) host

-- a log follows a scenario: each event is the next of its host, and each reply is given in an event, the replies in the order
-- of their events
pub record Follows (facts : HostFacts) (start : List Sector) (s : Scenario) (events : List Event) (replies : List Reply) : Type 0 where
  pub next : IsFollowing facts start s (told events replies)
  pub given : (i : ℕ) (r : Reply) → slice_get replies i ≡ Some r → r.event < length events
  pub rising : (i j : ℕ) (q r : Reply) → i < j → slice_get replies i ≡ Some q → slice_get replies j ≡ Some r → q.event < r.event

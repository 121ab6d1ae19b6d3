-- What a turn of a call owes to a log that follows its scenario.
use Rattle.std.specs.Prelude.{◌≡◌, ℕ, suc, Bool, List, [], ◌∷◌, ◌++◌, length, Option, Some, None}
use Rattle.std.specs.Option.{is_some}
use Rattle.ds_base.specs.declared.sectors.Sector.{Sector}
use Rattle.ds_tree.specs.declared.calls.HostCallOf.{HostCallOf}
use Rattle.ds_tree.specs.declared.scenarios.Directive.{Directive}
use Rattle.ds_tree.specs.declared.scenarios.Directive.TheVariants as directives
use Rattle.ds_tree.specs.declared.scenarios.Scenario.{Scenario}
use Rattle.ds_tree.specs.declared.variables.Spoken.{Spoken}
use Rattle.ds_conduct.specs.declared.answers.HostAnswer.{HostAnswer}
use Rattle.ds_log.specs.declared.logs.Event.{Event}
use Rattle.ds_log.specs.declared.logs.Reply.{Reply}
use Rattle.ds_log.specs.declared.logs.Step.TheVariants.{Local}
use Rattle.ds_log_order.specs.Follows.{IsAnsweredOnce, IsCallStep, clock}
use Rattle.ds_log_order.specs.HostFacts.{HostFacts, is_carried_out, is_hit}
use Rattle.ds_log_order.specs.LogProgress.{progress, progresses}
use Rattle.ds_log_order.specs.Told.{Told}
use Rattle.ds_log_order.specs.Waiting.{IsGoing}
use Rattle.ds_log_order.specs.declared.hosts.CallTurn.{CallTurn}
use Rattle.ds_log_order.specs.declared.progress.Mark.{Mark}
use Rattle.ds_log_order.specs.declared.progress.Progress.{Progress}

-- the event of a turn
abbrev pub turn_event : ℕ → Progress → ℕ → CallTurn → Event
turn_event host p at turn = record { host = host; at = at; directive = suc p.finished; step = turn.step; dies = turn.dies }

-- the reply that gives an answer in the event with this index, where there is one
abbrev pub reply_to : ℕ → Progress → ℕ → Option ℕ → Option HostAnswer → Option Reply
reply_to host p event place None = None
reply_to host p event place (Some answer) =
    Some (record { event = event; host = host; directive = suc p.finished; answer = answer; place = place })

-- a turn as it is told
abbrev pub turn_told : ℕ → Progress → ℕ → ℕ → CallTurn → Told
turn_told host p event at turn = record {
  event = turn_event host p at turn;
  reply = reply_to host p event turn.place turn.answer;
}

-- what a turn tells of how far the host has come
abbrev pub mark_of_turn : CallTurn → Mark
mark_of_turn turn = record {
  hit = turn.hit;
  done = is_carried_out turn.step;
  dies = turn.dies;
  ends = turn.ends;
  replied = is_some turn.answer;
}

-- a host is to go on with this call, after these events
pub record IsAsked (facts : HostFacts) (s : Scenario) (log : List Told) (host : ℕ) (p : Progress) (call : HostCallOf Spoken)
    (event at : ℕ) : Type 0 where
  pub progress_is : p ≡ progress facts s.hosts host log
  pub directive : Directive
  pub going : IsGoing s.hosts (progresses facts s.hosts log) host directive
  pub calls : (bind : Option (List ℕ)) × (directive ≡ directives.Call call bind)
  pub count : event ≡ length log
  pub tick : at ≡ clock s log

-- what a turn of a call did
pub record IsCallTurn (facts : HostFacts) (start : List Sector) (log : List Told) (host : ℕ) (p : Progress) (event at : ℕ)
    (turn : CallTurn) (Agrees : List Told → Type 0) : Type 0 where
  pub step : IsCallStep facts start log p (turn_told host p event at turn) turn.ends turn.step
  pub once : IsAnsweredOnce p (turn_told host p event at turn) turn.ends
  pub ends_there : turn.ends ≡ facts.rests (log ++ turn_told host p event at turn ∷ []) host
  pub hit_is : turn.hit ≡ is_hit facts p.arm (turn_event host p at turn)
  pub agrees : Agrees (log ++ turn_told host p event at turn ∷ [])

-- an event without a command
pub record IsIdle (host : ℕ) (dies : Bool) (e : Event) : Type 0 where
  pub of_host : e.host ≡ host
  pub local : e.step ≡ Local
  pub death : e.dies ≡ dies

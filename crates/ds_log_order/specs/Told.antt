-- The events of a log, each with the reply that was given in it.
use Rattle.std.specs.Prelude.{ℕ, suc, ◌==◌, List, [], ◌∷◌, ◌++◌, map, Option, Some, None, if◌then◌else◌}
use Rattle.ds_log.specs.declared.logs.Event.{Event}
use Rattle.ds_log.specs.declared.logs.Reply.{Reply}

-- an event, with the reply that was given in it
pub record Told : Type 0 where
  pub event : Event
  pub reply : Option Reply

-- the reply that was given in the event with this index
abbrev pub reply_at : List Reply → ℕ → Option Reply
reply_at [] n = None
reply_at (r ∷ replies) n = if r.event == n then Some r else reply_at replies n

-- the events from this index on, with their replies
abbrev pub told_from : List Reply → ℕ → List Event → List Told
told_from replies n [] = []
told_from replies n (e ∷ events) = record { event = e; reply = reply_at replies n } ∷ told_from replies (suc n) events

-- the events of a log with their replies
abbrev pub told : List Event → List Reply → List Told
told events replies = told_from replies 0 events

-- the events alone
abbrev pub events_of : List Told → List Event
events_of log = map (λ (t : Told). t.event) log

-- the replies, with the one that is given where there is one
abbrev pub and_some : List Reply → Option Reply → List Reply
and_some replies None = replies
and_some replies (Some r) = replies ++ r ∷ []

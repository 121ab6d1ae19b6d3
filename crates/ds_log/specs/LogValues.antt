-- What contracts see of a `Log`.
use Rattle.std.specs.Prelude.{ℕ, List}
use Rattle.ds_log.specs.declared.logs.Event.{Event}
use Rattle.ds_log.specs.declared.logs.Reply.{Reply}

-- the events and replies so far, and the number of events that still fit, each with a reply
pub record LogValue : Type 0 where
  pub events : List Event
  pub replies : List Reply
  pub spare : ℕ

-- The order of the replies of a log.
use Rattle.std.specs.Prelude.{◌<◌, List, length, All, AllPairs}
use Rattle.ds_log.specs.declared.logs.Event.{Event}
use Rattle.ds_log.specs.declared.logs.Reply.{Reply}

-- each reply is given in a later event than the one before
abbrev pub AreInOrder : List Reply → Type 0
AreInOrder replies = AllPairs (λ r q. r.event < q.event) replies

-- the replies are in order, and given in these events
pub record AreLogged (events : List Event) (replies : List Reply) : Type 0 where
  pub in_order : AreInOrder replies
  pub given : All (λ r. r.event < length events) replies

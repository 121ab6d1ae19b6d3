-- What progress needs to know of the hosts' own commands and answers, and what an event tells of it.
use Rattle.std.specs.Prelude.{ℕ, Bool, true, false, List, [], ◌∷◌, ◌++◌, Option, Some, None}
use Rattle.std.specs.Option.{is_some}
use Rattle.ds_base.specs.declared.commands.Response.{Response}
use Rattle.ds_base.specs.declared.commands.Response.TheVariants.{Got, Done}
use Rattle.ds_tree.specs.declared.scenarios.Point.{Point}
use Rattle.ds_log.specs.declared.logs.Event.{Event}
use Rattle.ds_log.specs.declared.logs.Step.{Step}
use Rattle.ds_log.specs.declared.logs.Step.TheVariants.{Local, Sent}
use Rattle.ds_log_order.specs.Progress.{point_of}
use Rattle.ds_log_order.specs.Told.{Told}
use Rattle.ds_log_order.specs.declared.progress.Arm.{Arm}
use Rattle.ds_log_order.specs.declared.progress.Mark.{Mark}
use Rattle.ds_log_order.specs.declared.progress.Progress.{Progress}

-- what a host's own commands and answers decide: whether its call and the tail of it have ended after these events; under
-- which generation it sends; and whether, in a tail, a write is due that comes too late at this event. And whether an event's
-- command is of this kind
pub record HostFacts : Type 0 where
  pub rests : List Told → ℕ → Bool
  pub held : List Told → ℕ → Option (ℕ × ℕ)
  pub is_late : List Told → Event → Bool
  pub is_of : Point → Event → Bool

-- whether a response is Got or Done
abbrev pub is_given : Response → Bool
is_given (Got sector) = true
is_given Done = true
is_given _ = false

-- whether a step is a command that answered Got or Done
abbrev pub is_carried_out : Step → Bool
is_carried_out Local = false
is_carried_out (Sent under command response landed took) = is_given response

module _ (facts : HostFacts) where
  -- whether an event's command is of the kind that may be named
  abbrev pub is_at : Option Point → Event → Bool
  is_at None e = false
  is_at (Some point) e = facts.is_of point e

  -- whether an event's command is of the kind for which something is set
  abbrev pub is_hit : Arm → Event → Bool
  is_hit arm e = is_at (point_of arm) e

  -- what an event tells, after these events and for a host that has come so far
  abbrev pub mark_of : List Told → Progress → Told → Mark
  mark_of past p t = record {
    hit = is_hit p.arm t.event;
    done = is_carried_out t.event.step;
    dies = t.event.dies;
    ends = facts.rests (past ++ t ∷ []) t.event.host;
    replied = is_some t.reply;
  }

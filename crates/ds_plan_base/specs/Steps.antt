-- How a planner goes on from what it knows to what it asks for.
use Rattle.std.specs.Prelude.{Option, Some, None, Result, Ok, Err}
use Rattle.ds_image.specs.declared.asks.Ask.{Ask}
use Rattle.ds_image.specs.declared.asks.Ask.TheVariants.{Done}
use Rattle.ds_plan_base.specs.Stops.{ask_of}
use Rattle.ds_plan_base.specs.declared.stops.Stop.{Stop}
use Rattle.ds_tree.specs.declared.calls.TreeReply.{TreeReply}

-- goes on with what is known, or asks for what isn't
abbrev pub after : {V W : Type 0} → Result V Stop → (V → Result W Stop) → Result W Stop
after (Ok v) next = next v
after (Err stop) next = Err stop

-- what was found, or else what there is behind it
abbrev pub or_later : {V : Type 0} → Option V → Result (Option V) Stop → Result (Option V) Stop
or_later None later = later
or_later (Some v) later = Ok (Some v)

-- a planner is done once it knows the reply
abbrev pub settled : Result TreeReply Stop → Ask
settled (Ok reply) = Done reply
settled (Err stop) = ask_of stop

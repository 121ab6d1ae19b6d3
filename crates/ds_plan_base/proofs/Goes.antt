-- What holds of what is known, or else of what is asked for.
use Rattle.std.specs.Prelude.{Result, Ok, Err}
use Rattle.ds_image.specs.declared.asks.Ask.{Ask}
use Rattle.ds_plan_base.specs.Stops.{ask_of}
use Rattle.ds_plan_base.specs.declared.stops.Stop.{Stop}

-- what is known is so, or else what is asked for is good
abbrev pub Goes : {V : Type 0} → (Ask → Type 0) → Result V Stop → (V → Type 0) → Type 0
Goes Good (Ok v) Is = Is v
Goes Good (Err stop) Is = Good (ask_of stop)

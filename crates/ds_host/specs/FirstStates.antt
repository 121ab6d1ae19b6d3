-- What contracts see of the first host.
use Rattle.std.specs.Prelude.{Bool}
use Rattle.ds_host.specs.declared.first_host.Stage.{Stage}

pub record FirstState : Type 0 where
  pub registered : Bool
  pub stage : Stage

-- What a host acts by.
use Rattle.std.specs.Prelude.{ℕ, List}
use Rattle.ds_base.specs.declared.geometry.Geom.{Geom}
use Rattle.ds_base.specs.declared.names.Key.{Key}
use Rattle.ds_tree.specs.CallNames.{HasNames}
use Rattle.ds_tree.specs.declared.calls.CallOf.{CallOf}
use Rattle.ds_image.specs.Planning.{Answers, AllKeep}

-- the shape of the volume, the host's id, and the planner of each call by the slot that the host holds
pub record Setting : Type 0 where
  pub geom : Geom
  pub host : List ℕ
  pub plans : ℕ → CallOf Key → Answers

-- each planner keeps the law of planners
abbrev pub AllPlansKeep : Setting → Type 0
AllPlansKeep setting = (slot : ℕ) (call : CallOf Key) → HasNames call → AllKeep setting.geom call (setting.plans slot call)

-- A volume and the hosts that use it.
use Rattle.std.specs.Prelude.{ℕ, List}
use Rattle.ds_base.specs.declared.geometry.Geom.{Geom}
use Rattle.ds_base.specs.declared.names.Key.{Key}
use Rattle.ds_tree.specs.declared.calls.CallOf.{CallOf}
use Rattle.ds_image.specs.Planning.{Answers}
use Rattle.ds_conduct.specs.Settings.{Setting}

-- the shape of a volume, the id of each host, and the planner of each call by the slot that its host holds
pub record Volume : Type 0 where
  pub geom : Geom
  pub ids : ℕ → List ℕ
  pub plans : ℕ → CallOf Key → Answers

-- what this host acts by
abbrev pub setting_of : Volume → ℕ → Setting
setting_of volume host = record { geom = volume.geom; host = volume.ids host; plans = volume.plans }

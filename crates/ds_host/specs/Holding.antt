-- What holds of a host, whatever it has sent.
use Rattle.std.specs.Prelude.{All, ◌≡◌, ℕ, ◌^◌, ◌<◌, ◌≤◌, List, length, Option, Some, IfSome, ⊤}
use Rattle.ds_base.specs.Geometry.{IsGeom}
use Rattle.ds_base.specs.declared.geometry.Geom.{Geom}
use Rattle.ds_layout.specs.Places.{IsLock}
use Rattle.ds_reg.specs.Stages.{IsOwnImage}
use Rattle.ds_host.specs.Hosts.{HostValue}
use Rattle.ds_host.specs.declared.stages.Held.{Held}
use Rattle.ds_host.specs.declared.stages.Stage.{Stage}
use Rattle.ds_host.specs.declared.stages.Stage.TheVariants as stages
use Rattle.ds_host.specs.declared.stages.Taken.{Taken}

-- a lock of the volume, with a generation that there can be
pub record IsTaken (g : Geom) (t : Taken) : Type 0 where
  pub is_lock : IsLock g t.object
  pub room : t.generation ≤ 2 ^ 62

-- a lock is there to be given back, under the generation held
pub record IsGivable (own : Option Held) (taken : List Taken) (i : ℕ) : Type 0 where
  pub held : Held
  pub holds : own ≡ Some held
  pub within : i < length taken

abbrev pub StageFits : Option Held → List Taken → Stage → Type 0
StageFits own taken (stages.Giving i) = IsGivable own taken i
StageFits own taken stage = ⊤

pub record IsHost {X : Type 0} (h : HostValue X) : Type 0 where
  pub is_geom : IsGeom h.geom
  pub own : IfSome h.own (λ (held : Held). IsOwnImage h.geom held.slot held.image)
  pub taken : All (IsTaken h.geom) h.taken
  pub stage : StageFits h.own h.taken h.stage

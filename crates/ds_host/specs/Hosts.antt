-- What contracts see of a host.
use Rattle.std.specs.Prelude.{ℕ, List, [], ◌∷◌, ◌++◌, Option, None, Some}
use Rattle.ds_base.specs.declared.geometry.Geom.{Geom}
use Rattle.ds_image.specs.SeenValues.{SeenValue}
use Rattle.ds_watch.specs.declared.watch.Shown.{Shown}
use Rattle.ds_host.specs.declared.stages.Held.{Held}
use Rattle.ds_host.specs.declared.stages.Stage.{Stage}
use Rattle.ds_host.specs.declared.stages.Stage.TheVariants.{Giving, Rest}
use Rattle.ds_host.specs.declared.stages.Taken.{Taken}

-- its id and the shape of the volume; the slot that it holds; what it noted of slots; and of the call under way its planner, what it
-- has seen, the locks that it took in their order, and how far it is
pub record HostValue (Plan : Type 0) : Type 0 where
  pub host : List ℕ
  pub geom : Geom
  pub own : Option Held
  pub watch : List (Option Shown)
  pub plan : Option Plan
  pub seen : SeenValue
  pub taken : List Taken
  pub stage : Stage

abbrev pub with_stage : {X : Type 0} → HostValue X → Stage → HostValue X
with_stage h stage = record {
  host = h.host;
  geom = h.geom;
  own = h.own;
  watch = h.watch;
  plan = h.plan;
  seen = h.seen;
  taken = h.taken;
  stage = stage;
}

abbrev pub with_watch : {X : Type 0} → HostValue X → List (Option Shown) → HostValue X
with_watch h watch = record {
  host = h.host;
  geom = h.geom;
  own = h.own;
  watch = watch;
  plan = h.plan;
  seen = h.seen;
  taken = h.taken;
  stage = h.stage;
}

abbrev pub with_own : {X : Type 0} → HostValue X → Held → HostValue X
with_own h held = record {
  host = h.host;
  geom = h.geom;
  own = Some held;
  watch = h.watch;
  plan = h.plan;
  seen = h.seen;
  taken = h.taken;
  stage = h.stage;
}

-- a host that forgets its generation and its locks, and rests
abbrev pub without_own : {X : Type 0} → HostValue X → HostValue X
without_own h = record {
  host = h.host;
  geom = h.geom;
  own = None;
  watch = h.watch;
  plan = h.plan;
  seen = h.seen;
  taken = [];
  stage = Rest;
}

-- where a call stands after its answer: its locks are given back, if it took any
abbrev pub end_of : List Taken → Stage
end_of [] = Rest
end_of (t ∷ ts) = Giving 0

-- one more lock is kept
abbrev pub with_taken : {X : Type 0} → HostValue X → Taken → HostValue X
with_taken h t = record {
  host = h.host;
  geom = h.geom;
  own = h.own;
  watch = h.watch;
  plan = h.plan;
  seen = h.seen;
  taken = h.taken ++ t ∷ [];
  stage = h.stage;
}

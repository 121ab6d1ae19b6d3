-- The planner of calls that read names keeps the law of planners.
use Rattle.std.proofs.Common.{◌≡◌, ℕ, refl, sym, subst, arith}
use Rattle.std.specs.List.{Contains}
use Rattle.ds_base.specs.Geometry.{IsGeom}
use Rattle.ds_base.specs.declared.geometry.Geom.{Geom}
use Rattle.ds_base.specs.declared.names.Key.{Key}
use Rattle.ds_image_parts.specs.Parts.{Parts}
use Rattle.ds_image.specs.Planning.{AllAreAllowed, AllAreFew, AllKeep}
use Rattle.ds_image_parts.specs.Readings.{ReadsParts}
use Rattle.ds_image.specs.SeenValues.{SeenValue, look_of}
use Rattle.ds_image.specs.declared.asks.Ask.{Ask}
use Rattle.ds_plan_dirs.specs.Answers.{ReadsValue, call_of, answers_of}
use Rattle.ds_plan_dirs.proofs.Lists.{list_asks}
use Rattle.ds_plan_dirs.proofs.Lookups.{lookup_asks}
use Rattle.ds_plan_dirs.specs.declared.reading.ReadCall.{ReadCall}
use Rattle.ds_plan_dirs.specs.declared.reading.ReadCall.TheVariants as kept
use Rattle.ds_plan_base.proofs.DirAsks.{DirAsks}
use Rattle.ds_image.specs.Locks.{IsAllowed, keys_of}
use Rattle.ds_plan_base.proofs.DirLaws.{dir_keeps, dir_few, dir_allowed}
use Rattle.ds_tree.specs.CallNames.{HasNames}

-- the directory of a call
abbrev dir_of : ReadCall → Key
dir_of (kept.Lookup dir name) = dir
dir_of (kept.List dir above) = dir

asks_of : (g : Geom) (slot : ℕ) (call : ReadCall) (seen : SeenValue) (p : Parts) → ReadsParts g (look_of seen) p
    → DirAsks g (call_of call) (dir_of call).object seen p (answers_of (record { geom = g; slot = slot; call = call }) seen p)
asks_of g slot (kept.Lookup dir name) seen p reads = lookup_asks g dir name seen p reads
asks_of g slot (kept.List dir above) seen p reads = list_asks g dir above seen p reads

has_dir : (call : ReadCall) → Contains (keys_of (call_of call)) (dir_of call)
has_dir (kept.Lookup dir name) = (0, omega arith, refl)
has_dir (kept.List dir above) = (0, omega arith, refl)

pub reads_keep : (plan : ReadsValue) → IsGeom plan.geom → HasNames (call_of plan.call) → AllKeep plan.geom (call_of plan.call) (answers_of plan)
reads_keep plan is names seen p reads =
    dir_keeps plan.geom (call_of plan.call) (dir_of plan.call).object seen p (answers_of plan seen p) (asks_of plan.geom plan.slot plan.call seen p reads)

pub reads_few : (plan : ReadsValue) → IsGeom plan.geom → HasNames (call_of plan.call) → AllAreFew plan.geom (answers_of plan)
reads_few plan is names =
    dir_few plan.geom (call_of plan.call) (dir_of plan.call).object (answers_of plan) (λ seen p reads. asks_of plan.geom plan.slot plan.call seen p reads)

pub reads_allowed : (plan : ReadsValue) → IsGeom plan.geom → HasNames (call_of plan.call) → AllAreAllowed plan.geom plan.slot (call_of plan.call) (answers_of plan)
reads_allowed plan is names seen p reads =
    dir_allowed plan.geom plan.slot (call_of plan.call) (dir_of plan.call) seen p (answers_of plan seen p) (has_dir plan.call)
    (asks_of plan.geom plan.slot plan.call seen p reads)

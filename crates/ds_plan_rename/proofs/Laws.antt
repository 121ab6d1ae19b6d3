-- The planner of Rename keeps the law of planners.
use Rattle.std.proofs.Common.{◌≡◌, sym, subst}
use Rattle.ds_base.specs.Geometry.{IsGeom}
use Rattle.ds_base.specs.Names.{IsName}
use Rattle.ds_image_parts.specs.Parts.{Parts}
use Rattle.ds_image.specs.Planning.{AllAreAllowed, AllAreFew, AllKeep}
use Rattle.ds_image_parts.specs.Readings.{ReadsParts}
use Rattle.ds_image.specs.SeenValues.{SeenValue, look_of}
use Rattle.ds_image.specs.declared.asks.Ask.{Ask}
use Rattle.ds_image.specs.Locks.{IsAllowed}
use Rattle.ds_plan_base.proofs.PlanAsks.{PlanAsks}
use Rattle.ds_plan_base.proofs.PlanLaws.{plan_keeps, plan_allowed, plan_few}
use Rattle.ds_plan_rename.specs.Answers.{RenameValue, call_of, answers_of}
use Rattle.ds_plan_rename.proofs.Holding.{MayHold, MayRead, holds-stay, reads-stay, lock_list, sector_list, in-lock_list, in-sector_list, few_locks, few_sectors}
use Rattle.ds_plan_rename.proofs.Walk.{rename_asks}
use Rattle.ds_tree.specs.CallNames.{HasNames}

abbrev AllGood : RenameValue → SeenValue → Parts → Ask → Type 0
AllGood plan =
    PlanAsks plan.geom plan.slot (call_of plan) (MayHold plan.dir.object plan.to.object) (MayRead plan.geom plan.dir.object plan.to.object)

asks_of : (plan : RenameValue) → IsGeom plan.geom → IsName plan.fresh → (seen : SeenValue) (p : Parts) → ReadsParts plan.geom (look_of seen) p → AllGood plan seen p (answers_of plan seen p)
asks_of plan is named seen p reads = rename_asks plan.geom is plan.slot plan.dir plan.name plan.to plan.fresh named seen p reads

pub rename_keeps : (plan : RenameValue) → IsGeom plan.geom → HasNames (call_of plan) → AllKeep plan.geom (call_of plan) (answers_of plan)
rename_keeps plan is names seen p reads =
    plan_keeps plan.geom plan.slot (call_of plan) (MayHold plan.dir.object plan.to.object) (MayRead plan.geom plan.dir.object plan.to.object) seen p (answers_of plan seen p)
    (asks_of plan is names.1 seen p reads)

pub rename_few : (plan : RenameValue) → IsGeom plan.geom → HasNames (call_of plan) → AllAreFew plan.geom (answers_of plan)
rename_few plan is names =
    let g = plan.geom in
    let dir = plan.dir.object in
    let to = plan.to.object in
    plan_few g plan.slot (call_of plan) (MayHold dir to) (MayRead g dir to) (answers_of plan) (asks_of plan is names.1)
    (λ seen next p q grows reads reads' object may. holds-stay dir to seen next p q object may)
    (λ seen next p q grows reads reads' at may. reads-stay g dir to seen next p q grows reads reads' at may)
    (lock_list dir to) (sector_list g dir to)
    (λ seen p reads k may. in-lock_list dir to seen p k may)
    (λ seen p reads k may. in-sector_list g dir to seen p k may)
    (λ seen p reads. few_locks dir to seen p)
    (λ seen p reads. few_sectors g dir to seen p reads)

-- only allowed locks are asked for
pub rename_allowed : (plan : RenameValue) → IsGeom plan.geom → HasNames (call_of plan) → AllAreAllowed plan.geom plan.slot (call_of plan) (answers_of plan)
rename_allowed plan is names seen p reads =
    plan_allowed plan.geom plan.slot (call_of plan) (MayHold plan.dir.object plan.to.object) (MayRead plan.geom plan.dir.object plan.to.object) seen p (answers_of plan seen p)
    (asks_of plan is names.1 seen p reads)

-- The planner of a call keeps the law of planners.
use Rattle.ds_base.specs.Geometry.{IsGeom}
use Rattle.ds_image.specs.Planning.{AllAreAllowed, AllAreFew, AllKeep}
use Rattle.ds_names.specs.Laws.{names_allowed, names_few, names_keep}
use Rattle.ds_plan_calls.specs.Calls.{answers_of, call_of, geom_of, slot_of}
use Rattle.ds_plan_calls.specs.declared.planner.Planner.{Planner}
use Rattle.ds_plan_calls.specs.declared.planner.Planner.TheVariants.{Names, Space, Reads}
use Rattle.ds_plan_reads.proofs.Laws.{reads_allowed, reads_few, reads_keep}
use Rattle.ds_plan_resize.proofs.Laws.{resize_allowed, resize_few, resize_keeps}
use Rattle.ds_tree.specs.CallNames.{HasNames}

pub planner_keeps : (plan : Planner) → IsGeom (geom_of plan) → HasNames (call_of plan)
    → AllKeep (geom_of plan) (call_of plan) (answers_of plan)
planner_keeps (Names plan) = names_keep plan
planner_keeps (Space plan) = resize_keeps plan
planner_keeps (Reads plan) = reads_keep plan

pub planner_few : (plan : Planner) → IsGeom (geom_of plan) → HasNames (call_of plan) → AllAreFew (geom_of plan) (answers_of plan)
planner_few (Names plan) = names_few plan
planner_few (Space plan) = resize_few plan
planner_few (Reads plan) = reads_few plan

pub planner_allowed : (plan : Planner) → IsGeom (geom_of plan) → HasNames (call_of plan)
    → AllAreAllowed (geom_of plan) (slot_of plan) (call_of plan) (answers_of plan)
planner_allowed (Names plan) = names_allowed plan
planner_allowed (Space plan) = resize_allowed plan
planner_allowed (Reads plan) = reads_allowed plan

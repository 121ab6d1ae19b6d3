-- The planner of calls on names keeps the law of planners.
use Rattle.ds_base.specs.Geometry.{IsGeom}
use Rattle.ds_image.specs.Planning.{AllAreAllowed, AllAreFew, AllKeep}
use Rattle.ds_plan_make.proofs.Laws.{make_allowed, make_few, make_keeps}
use Rattle.ds_names.specs.Calls.{answers_of, call_of, geom_of, slot_of}
use Rattle.ds_plan_dirs.proofs.Laws.{reads_allowed, reads_few, reads_keep}
use Rattle.ds_names.specs.declared.names.Names.{Names}
use Rattle.ds_names.specs.declared.names.Names.TheVariants.{Reads, Makes, Removes, Renames}
use Rattle.ds_plan_remove.proofs.Laws.{remove_allowed, remove_few, remove_keeps}
use Rattle.ds_plan_rename.proofs.Laws.{rename_allowed, rename_few, rename_keeps}
use Rattle.ds_tree.specs.CallNames.{HasNames}

pub names_keep : (plan : Names) → IsGeom (geom_of plan) → HasNames (call_of plan) → AllKeep (geom_of plan) (call_of plan) (answers_of plan)
names_keep (Reads plan) = reads_keep plan
names_keep (Makes plan) = make_keeps plan
names_keep (Removes plan) = remove_keeps plan
names_keep (Renames plan) = rename_keeps plan

pub names_few : (plan : Names) → IsGeom (geom_of plan) → HasNames (call_of plan) → AllAreFew (geom_of plan) (answers_of plan)
names_few (Reads plan) = reads_few plan
names_few (Makes plan) = make_few plan
names_few (Removes plan) = remove_few plan
names_few (Renames plan) = rename_few plan

pub names_allowed : (plan : Names) → IsGeom (geom_of plan) → HasNames (call_of plan) → AllAreAllowed (geom_of plan) (slot_of plan) (call_of plan) (answers_of plan)
names_allowed (Reads plan) = reads_allowed plan
names_allowed (Makes plan) = make_allowed plan
names_allowed (Removes plan) = remove_allowed plan
names_allowed (Renames plan) = rename_allowed plan

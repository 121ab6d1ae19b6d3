-- Calls on names and their planners.
use Rattle.std.specs.Prelude.{ℕ, ⊤}
use Rattle.ds_base.specs.declared.geometry.Geom.{Geom}
use Rattle.ds_base.specs.declared.names.Key.{Key}
use Rattle.ds_image.specs.Planning.{Answers}
use Rattle.ds_plan_make.specs.Answers as making
use Rattle.ds_plan_dirs.specs.Answers as reading
use Rattle.ds_names.specs.declared.names.Names.{Names}
use Rattle.ds_names.specs.declared.names.Names.TheVariants.{Reads, Makes, Removes, Renames}
use Rattle.ds_plan_remove.specs.Answers as removing
use Rattle.ds_plan_rename.specs.Answers as renaming
use Rattle.ds_tree.specs.declared.calls.CallOf.{CallOf}
use Rattle.ds_tree.specs.declared.calls.CallOf.TheVariants as calls

-- the calls on names
abbrev pub IsOnNames : CallOf Key → Type 0
IsOnNames (calls.Lookup dir name) = ⊤
IsOnNames (calls.List dir after) = ⊤
IsOnNames (calls.Mkdir dir name) = ⊤
IsOnNames (calls.Create dir name) = ⊤
IsOnNames (calls.Remove dir name) = ⊤
IsOnNames (calls.Rmdir dir name) = ⊤
IsOnNames (calls.Rename dir name to fresh) = ⊤
IsOnNames _ = ⊥

-- the shape of a planner's volume, its host's slot, and its call
abbrev pub geom_of : Names → Geom
geom_of (Reads plan) = plan.geom
geom_of (Makes plan) = plan.geom
geom_of (Removes plan) = plan.geom
geom_of (Renames plan) = plan.geom

abbrev pub slot_of : Names → ℕ
slot_of (Reads plan) = plan.slot
slot_of (Makes plan) = plan.slot
slot_of (Removes plan) = plan.slot
slot_of (Renames plan) = plan.slot

abbrev pub call_of : Names → CallOf Key
call_of (Reads plan) = reading.call_of plan.call
call_of (Makes plan) = making.call_of plan
call_of (Removes plan) = removing.call_of plan
call_of (Renames plan) = renaming.call_of plan

-- what it asks for
abbrev pub answers_of : Names → Answers
answers_of (Reads plan) = reading.answers_of plan
answers_of (Makes plan) = making.answers_of plan
answers_of (Removes plan) = removing.answers_of plan
answers_of (Renames plan) = renaming.answers_of plan

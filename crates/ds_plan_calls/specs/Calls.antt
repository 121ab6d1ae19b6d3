-- Calls on the tree and their planners.
use Rattle.std.specs.Prelude.{ℕ, ⊤}
use Rattle.ds_base.specs.declared.geometry.Geom.{Geom}
use Rattle.ds_base.specs.declared.names.Key.{Key}
use Rattle.ds_base.specs.declared.names.NodeKind.TheVariants as kinds
use Rattle.ds_image.specs.Planning.{Answers}
use Rattle.ds_names.specs.Calls as names
use Rattle.ds_plan_calls.specs.declared.planner.Planner.{Planner}
use Rattle.ds_plan_calls.specs.declared.planner.Planner.TheVariants.{Names, Space, Reads}
use Rattle.ds_plan_dirs.specs.Answers as dirs
use Rattle.ds_plan_dirs.specs.declared.reading.ReadCall.TheVariants as kept
use Rattle.ds_plan_make.specs.Answers as making
use Rattle.ds_plan_reads.specs.Answers as reading
use Rattle.ds_plan_reads.specs.declared.questions.Question.TheVariants as questions
use Rattle.ds_plan_remove.specs.Answers as removing
use Rattle.ds_plan_rename.specs.Answers as renaming
use Rattle.ds_plan_resize.specs.Answers as resizing
use Rattle.ds_tree.specs.declared.calls.CallOf.{CallOf}
use Rattle.ds_tree.specs.declared.calls.CallOf.TheVariants as calls

-- what a call asks for and answers, for a host with this slot on a volume of this shape
abbrev pub plan_for : Geom → ℕ → CallOf Key → Answers
plan_for g slot (calls.Mkdir dir name) = making.answers_of (record { geom = g; slot = slot; dir = dir; name = name; kind = kinds.Dir })
plan_for g slot (calls.Create dir name) = making.answers_of (record { geom = g; slot = slot; dir = dir; name = name; kind = kinds.File })
plan_for g slot (calls.Lookup dir name) = dirs.answers_of (record { geom = g; slot = slot; call = kept.Lookup dir name })
plan_for g slot (calls.List dir above) = dirs.answers_of (record { geom = g; slot = slot; call = kept.List dir above })
plan_for g slot (calls.Stat key) = reading.answers_of (record { geom = g; slot = slot; key = key; question = questions.Stat })
plan_for g slot (calls.Map file page) = reading.answers_of (record { geom = g; slot = slot; key = file; question = questions.Map page })
plan_for g slot (calls.Resize file size) = resizing.answers_of (record { geom = g; slot = slot; file = file; size = size })
plan_for g slot (calls.Remove dir name) = removing.answers_of (record { geom = g; slot = slot; dir = dir; name = name; kind = kinds.File })
plan_for g slot (calls.Rmdir dir name) = removing.answers_of (record { geom = g; slot = slot; dir = dir; name = name; kind = kinds.Dir })
plan_for g slot (calls.Rename dir name to fresh) =
    renaming.answers_of (record { geom = g; slot = slot; dir = dir; name = name; to = to; fresh = fresh })
plan_for g slot (calls.OpenFile file) = reading.answers_of (record { geom = g; slot = slot; key = file; question = questions.OpenFile })
plan_for g slot (calls.At file index) = reading.answers_of (record { geom = g; slot = slot; key = file; question = questions.At index })

-- the calls that only read
abbrev pub IsReadCall : CallOf Key → Type 0
IsReadCall (calls.Lookup dir name) = ⊤
IsReadCall (calls.List dir above) = ⊤
IsReadCall (calls.Stat key) = ⊤
IsReadCall (calls.Map file page) = ⊤
IsReadCall (calls.OpenFile file) = ⊤
IsReadCall (calls.At file index) = ⊤
IsReadCall _ = ⊥

-- the shape of a planner's volume, its host's slot, and its call
abbrev pub geom_of : Planner → Geom
geom_of (Names plan) = names.geom_of plan
geom_of (Space plan) = plan.geom
geom_of (Reads plan) = plan.geom

abbrev pub slot_of : Planner → ℕ
slot_of (Names plan) = names.slot_of plan
slot_of (Space plan) = plan.slot
slot_of (Reads plan) = plan.slot

abbrev pub call_of : Planner → CallOf Key
call_of (Names plan) = names.call_of plan
call_of (Space plan) = resizing.call_of plan
call_of (Reads plan) = reading.call_of plan

-- what it asks for
abbrev pub answers_of : Planner → Answers
answers_of (Names plan) = names.answers_of plan
answers_of (Space plan) = resizing.answers_of plan
answers_of (Reads plan) = reading.answers_of plan

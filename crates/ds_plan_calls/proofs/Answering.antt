-- The shape of a planner's volume, its host's slot and its call alone say what it asks for and answers.
use Rattle.std.proofs.Common.{◌≡◌, ℕ, List, refl}
use Rattle.ds_base.specs.declared.geometry.Geom.{Geom}
use Rattle.ds_base.specs.declared.names.Key.{Key}
use Rattle.ds_base.specs.declared.names.NodeKind.{NodeKind}
use Rattle.ds_base.specs.declared.names.NodeKind.TheVariants as kinds
use Rattle.ds_names.specs.Calls as names
use Rattle.ds_names.specs.declared.names.Names.{Names}
use Rattle.ds_names.specs.declared.names.Names.TheVariants as parts
use Rattle.ds_plan_calls.specs.Calls.{answers_of, call_of, geom_of, plan_for, slot_of}
use Rattle.ds_plan_calls.specs.declared.planner.Planner.{Planner}
use Rattle.ds_plan_calls.specs.declared.planner.Planner.TheVariants as planners
use Rattle.ds_plan_dirs.specs.Answers as dirs
use Rattle.ds_plan_dirs.specs.declared.reading.ReadCall.{ReadCall}
use Rattle.ds_plan_dirs.specs.declared.reading.ReadCall.TheVariants as kept
use Rattle.ds_plan_laws_gone.specs.Leaving.{go_call}
use Rattle.ds_plan_laws_new.specs.Entering.{make_call}
use Rattle.ds_plan_make.specs.Answers as making
use Rattle.ds_plan_reads.specs.Answers as reading
use Rattle.ds_plan_reads.specs.declared.questions.Question.{Question}
use Rattle.ds_plan_reads.specs.declared.questions.Question.TheVariants as questions
use Rattle.ds_plan_remove.specs.Answers as removing

dirs_are : (g : Geom) (slot : ℕ) (call : ReadCall)
    → dirs.answers_of (record { geom = g; slot = slot; call = call }) ≡ plan_for g slot (dirs.call_of call)
dirs_are g slot (kept.Lookup dir name) = refl
dirs_are g slot (kept.List dir above) = refl

makes_are : (g : Geom) (slot : ℕ) (dir : Key) (name : List ℕ) (kind : NodeKind)
    → making.answers_of (record { geom = g; slot = slot; dir = dir; name = name; kind = kind }) ≡ plan_for g slot (make_call kind dir name)
makes_are g slot dir name kinds.Dir = refl
makes_are g slot dir name kinds.File = refl

removes_are : (g : Geom) (slot : ℕ) (dir : Key) (name : List ℕ) (kind : NodeKind)
    → removing.answers_of (record { geom = g; slot = slot; dir = dir; name = name; kind = kind }) ≡ plan_for g slot (go_call kind dir name)
removes_are g slot dir name kinds.Dir = refl
removes_are g slot dir name kinds.File = refl

reads_are : (g : Geom) (slot : ℕ) (key : Key) (question : Question)
    → reading.answers_of (record { geom = g; slot = slot; key = key; question = question }) ≡ plan_for g slot (reading.call_by key question)
reads_are g slot key questions.Stat = refl
reads_are g slot key (questions.Map page) = refl
reads_are g slot key questions.OpenFile = refl
reads_are g slot key (questions.At index) = refl

names_are : (plan : Names) → names.answers_of plan ≡ plan_for (names.geom_of plan) (names.slot_of plan) (names.call_of plan)
names_are (parts.Reads plan) = dirs_are plan.geom plan.slot plan.call
names_are (parts.Makes plan) = makes_are plan.geom plan.slot plan.dir plan.name plan.kind
names_are (parts.Removes plan) = removes_are plan.geom plan.slot plan.dir plan.name plan.kind
names_are (parts.Renames plan) = refl

-- a planner answers as its call is answered
pub answers_are : (plan : Planner) → answers_of plan ≡ plan_for (geom_of plan) (slot_of plan) (call_of plan)
answers_are (planners.Names plan) = names_are plan
answers_are (planners.Space plan) = refl
answers_are (planners.Reads plan) = reads_are plan.geom plan.slot plan.key plan.question

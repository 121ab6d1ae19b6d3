-- What is asked for and answered to each call keeps the law of planners.
use Rattle.std.proofs.Common.{ℕ}
use Rattle.ds_base.specs.Geometry.{IsGeom}
use Rattle.ds_base.specs.declared.geometry.Geom.{Geom}
use Rattle.ds_base.specs.declared.names.Key.{Key}
use Rattle.ds_base.specs.declared.names.NodeKind.TheVariants as kinds
use Rattle.ds_image.specs.Planning.{Answers, AllAreAllowed, AllAreFew, AllKeep}
use Rattle.ds_plan_calls.specs.Calls.{plan_for}
use Rattle.ds_plan_dirs.proofs.Laws as dirs_laws
use Rattle.ds_plan_dirs.specs.Answers as dirs
use Rattle.ds_plan_dirs.specs.declared.reading.ReadCall.TheVariants as kept
use Rattle.ds_plan_make.proofs.Laws.{make_allowed, make_few, make_keeps}
use Rattle.ds_plan_make.specs.Answers as making
use Rattle.ds_plan_reads.proofs.Laws.{reads_allowed, reads_few, reads_keep}
use Rattle.ds_plan_reads.specs.Answers as reading
use Rattle.ds_plan_reads.specs.declared.questions.Question.TheVariants as questions
use Rattle.ds_plan_remove.proofs.Laws.{remove_allowed, remove_few, remove_keeps}
use Rattle.ds_plan_remove.specs.Answers as removing
use Rattle.ds_plan_rename.proofs.Laws.{rename_allowed, rename_few, rename_keeps}
use Rattle.ds_plan_rename.specs.Answers as renaming
use Rattle.ds_plan_resize.proofs.Laws.{resize_allowed, resize_few, resize_keeps}
use Rattle.ds_plan_resize.specs.Answers as resizing
use Rattle.ds_tree.specs.CallNames.{HasNames}
use Rattle.ds_tree.specs.declared.calls.CallOf.{CallOf}
use Rattle.ds_tree.specs.declared.calls.CallOf.TheVariants as calls

-- the law of planners, whole
record IsLawful (g : Geom) (slot : ℕ) (call : CallOf Key) (answers : Answers) : Type 0 where
  keeps : AllKeep g call answers
  few : AllAreFew g answers
  allowed : AllAreAllowed g slot call answers

dirs_lawful : (plan : dirs.ReadsValue) → IsGeom plan.geom → HasNames (dirs.call_of plan.call)
    → IsLawful plan.geom plan.slot (dirs.call_of plan.call) (dirs.answers_of plan)
dirs_lawful plan is names = record {
  keeps = dirs_laws.reads_keep plan is names;
  few = dirs_laws.reads_few plan is names;
  allowed = dirs_laws.reads_allowed plan is names;
}

makes_lawful : (plan : making.MakeValue) → IsGeom plan.geom → HasNames (making.call_of plan)
    → IsLawful plan.geom plan.slot (making.call_of plan) (making.answers_of plan)
makes_lawful plan is names = record {
  keeps = make_keeps plan is names;
  few = make_few plan is names;
  allowed = make_allowed plan is names;
}

removes_lawful : (plan : removing.RemoveValue) → IsGeom plan.geom → HasNames (removing.call_of plan)
    → IsLawful plan.geom plan.slot (removing.call_of plan) (removing.answers_of plan)
removes_lawful plan is names = record {
  keeps = remove_keeps plan is names;
  few = remove_few plan is names;
  allowed = remove_allowed plan is names;
}

renames_lawful : (plan : renaming.RenameValue) → IsGeom plan.geom → HasNames (renaming.call_of plan)
    → IsLawful plan.geom plan.slot (renaming.call_of plan) (renaming.answers_of plan)
renames_lawful plan is names = record {
  keeps = rename_keeps plan is names;
  few = rename_few plan is names;
  allowed = rename_allowed plan is names;
}

resizes_lawful : (plan : resizing.ResizeValue) → IsGeom plan.geom → HasNames (resizing.call_of plan)
    → IsLawful plan.geom plan.slot (resizing.call_of plan) (resizing.answers_of plan)
resizes_lawful plan is names = record {
  keeps = resize_keeps plan is names;
  few = resize_few plan is names;
  allowed = resize_allowed plan is names;
}

reads_lawful : (plan : reading.ReadsValue) → IsGeom plan.geom → HasNames (reading.call_of plan)
    → IsLawful plan.geom plan.slot (reading.call_of plan) (reading.answers_of plan)
reads_lawful plan is names = record {
  keeps = reads_keep plan is names;
  few = reads_few plan is names;
  allowed = reads_allowed plan is names;
}

plans_lawful : (g : Geom) → IsGeom g → (slot : ℕ) (call : CallOf Key) → HasNames call → IsLawful g slot call (plan_for g slot call)
plans_lawful g is slot (calls.Mkdir dir name) =
    makes_lawful (record { geom = g; slot = slot; dir = dir; name = name; kind = kinds.Dir }) is
plans_lawful g is slot (calls.Create dir name) =
    makes_lawful (record { geom = g; slot = slot; dir = dir; name = name; kind = kinds.File }) is
plans_lawful g is slot (calls.Lookup dir name) = dirs_lawful (record { geom = g; slot = slot; call = kept.Lookup dir name }) is
plans_lawful g is slot (calls.List dir above) = dirs_lawful (record { geom = g; slot = slot; call = kept.List dir above }) is
plans_lawful g is slot (calls.Stat key) = reads_lawful (record { geom = g; slot = slot; key = key; question = questions.Stat }) is
plans_lawful g is slot (calls.Map file page) =
    reads_lawful (record { geom = g; slot = slot; key = file; question = questions.Map page }) is
plans_lawful g is slot (calls.Resize file size) = resizes_lawful (record { geom = g; slot = slot; file = file; size = size }) is
plans_lawful g is slot (calls.Remove dir name) =
    removes_lawful (record { geom = g; slot = slot; dir = dir; name = name; kind = kinds.File }) is
plans_lawful g is slot (calls.Rmdir dir name) =
    removes_lawful (record { geom = g; slot = slot; dir = dir; name = name; kind = kinds.Dir }) is
plans_lawful g is slot (calls.Rename dir name to fresh) =
    renames_lawful (record { geom = g; slot = slot; dir = dir; name = name; to = to; fresh = fresh }) is
plans_lawful g is slot (calls.OpenFile file) =
    reads_lawful (record { geom = g; slot = slot; key = file; question = questions.OpenFile }) is
plans_lawful g is slot (calls.At file index) =
    reads_lawful (record { geom = g; slot = slot; key = file; question = questions.At index }) is

-- each answer to a call has its form and is right
pub plans_keep : (g : Geom) → IsGeom g → (slot : ℕ) (call : CallOf Key) → HasNames call → AllKeep g call (plan_for g slot call)
plans_keep g is slot call names = (plans_lawful g is slot call names).keeps

-- few locks are held, and few sectors read
pub plans_few : (g : Geom) → IsGeom g → (slot : ℕ) (call : CallOf Key) → HasNames call → AllAreFew g (plan_for g slot call)
plans_few g is slot call names = (plans_lawful g is slot call names).few

-- only allowed locks are asked for
pub plans_allowed : (g : Geom) → IsGeom g → (slot : ℕ) (call : CallOf Key) → HasNames call
    → AllAreAllowed g slot call (plan_for g slot call)
plans_allowed g is slot call names = (plans_lawful g is slot call names).allowed

-- How many commands are still to come.
use Rattle.std.proofs.Common.{◌≡◌, ◌<◌, ◌≤◌, false, arith}
use Rattle.ds_base.specs.Geometry.{IsGeom}
use Rattle.ds_base.specs.declared.commands.Command.{Command}
use Rattle.ds_base.specs.declared.commands.Next.TheVariants.{Send}
use Rattle.ds_base.specs.declared.geometry.Geom.{Geom}
use Rattle.ds_base.specs.declared.geometry.GeomField.TheVariants.{Slots}
use Rattle.ds_reg.specs.Stages.{RegValue, due, left_at, left_of}
use Rattle.ds_reg.specs.declared.steps.Stage.{Stage}
use Rattle.ds_reg.specs.declared.steps.Stage.TheVariants as stages

due-left-at : (run : RegValue) (stage : Stage) (command : Command) → due run stage ≡ Send command → 0 < left_at run.geom stage
due-left-at run (stages.Looking slot missed) command is = omega arith
due-left-at run (stages.Entering slot image found missed) command is = omega arith
due-left-at run stages.Own command is = omega arith
due-left-at run stages.Over command is = absurd cc

-- where a command is due, one is still to come
pub due-left : (run : RegValue) (command : Command) → due run run.stage ≡ Send command → 0 < left_of run
due-left run command is = due-left-at run run.stage command is

-- at first two tries at each slot are to come
pub first-few : (g : Geom) → IsGeom g → left_at g (stages.Looking 0 false) ≤ 64
first-few g is = omega (arith, (is Slots).0, (is Slots).1)

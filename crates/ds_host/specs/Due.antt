-- What a host does next, and which calls it is given.
use Rattle.std.specs.Prelude.{ℕ, slice_get, Option, None, Some, ⊤}
use Rattle.ds_base.specs.declared.commands.Command.{Command}
use Rattle.ds_base.specs.declared.commands.Command.TheVariants.{Read, Swap}
use Rattle.ds_base.specs.declared.commands.Next.{Next}
use Rattle.ds_base.specs.declared.commands.Next.TheVariants as nexts
use Rattle.ds_base.specs.declared.geometry.Geom.{Geom}
use Rattle.ds_base.specs.declared.names.Key.{Key}
use Rattle.ds_conduct.specs.Causes.{header_sector}
use Rattle.ds_conduct.specs.Headers.{owner_of}
use Rattle.ds_conduct.specs.Settings.{Setting}
use Rattle.ds_conduct.specs.declared.answers.HostAnswer.{HostAnswer}
use Rattle.ds_conduct.specs.declared.answers.HostAnswer.TheVariants.{DeviceFault, Fenced}
use Rattle.ds_image.specs.Planning.{Answers}
use Rattle.ds_lock.specs.Locking.{header_image}
use Rattle.ds_lock.specs.Stages as locking
use Rattle.ds_reg.specs.Registering.{beaten_from}
use Rattle.ds_reg.specs.Stages as registering
use Rattle.ds_reg.specs.declared.calls.RegEnd.{RegEnd}
use Rattle.ds_reg.specs.declared.calls.RegEnd.TheVariants as ends
use Rattle.ds_tree.specs.declared.calls.CallOf.{CallOf}
use Rattle.ds_tree.specs.declared.calls.HostCallOf.{HostCallOf}
use Rattle.ds_tree.specs.declared.calls.HostCallOf.TheVariants as calls
use Rattle.ds_host.specs.Agreeing.{own_of, setting_of}
use Rattle.ds_host.specs.Hosts.{HostValue}
use Rattle.ds_host.specs.Reading.{IsReading}
use Rattle.ds_host.specs.declared.stages.Held.{Held}
use Rattle.ds_host.specs.declared.stages.Stage.{Stage}
use Rattle.ds_host.specs.declared.stages.Stage.TheVariants as stages
use Rattle.ds_host.specs.declared.stages.Taken.{Taken}

-- the calls that a host is given: those that need no change of the tree and no open file
abbrev pub IsCarried : HostCallOf Key → Type 0
IsCarried (calls.Tree call) = IsReading call
IsCarried calls.Register = ⊤
IsCarried calls.Unregister = ⊤
IsCarried calls.Beat = ⊤
IsCarried call = ⊥

-- the own slot after a renewal
abbrev pub beaten : Held → ℕ → Held
beaten held now = record { slot = held.slot; image = beaten_from held.image; last = now }

-- the Swap that gives a lock back
abbrev pub give_of : Setting → Held → Taken → Command
give_of setting held t =
    Swap (header_sector setting.geom t.object)
    (header_image (record { object = t.object; generation = t.generation; owner = Some (owner_of setting (own_of held)) }))
    (header_image (record { object = t.object; generation = t.generation; owner = None }))

abbrev pub given : Setting → Option Held → Option Taken → Next
given setting (Some held) (Some t) = nexts.Send (give_of setting held t)
given setting own t = nexts.Rest

-- what is told of a Swap of the own slot that wasn't done
abbrev pub lost_by : Option RegEnd → Option HostAnswer
lost_by (Some (ends.Fenced offset)) = Some (Fenced offset)
lost_by end = Some DeviceFault

module _ {X : Type 0} (geom_of : X → Geom) (answers : X → Answers) (plans : Geom → ℕ → CallOf Key → Answers) where
  abbrev pub due_at : HostValue X → Stage → Next
  due_at h stages.Rest = nexts.Rest
  due_at h (stages.Entering run) = registering.due run run.stage
  due_at h (stages.Renewing run answer) = registering.due run run.stage
  due_at h (stages.Leaving run) = registering.due run run.stage
  due_at h (stages.Locking run) = locking.due run
  due_at h (stages.Reading at) = nexts.Send (Read at)
  due_at h (stages.Giving i) = given (setting_of geom_of answers plans h) h.own (slice_get h.taken i)

  abbrev pub due_of : HostValue X → Next
  due_of h = due_at h h.stage

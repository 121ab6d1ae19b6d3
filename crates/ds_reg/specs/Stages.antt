-- What a run has sent and heard at each stage, and what it sends next.
use Rattle.std.specs.Prelude.{◌≡◌, ◌≢◌, ℕ, ◌+◌, ◌-◌, ◌*◌, ◌^◌, ◌<◌, if◌then◌else◌, Bool, true, false, List, [], Option, Some, None, ⊤}
use Rattle.std.specs.List.{Contains}
use Rattle.ds_base.specs.Device.{target_of}
use Rattle.ds_base.specs.Exchanges.{Exchange, IsLast, missed_at, seen_of}
use Rattle.ds_base.specs.Geometry.{IsGeom}
use Rattle.ds_base.specs.declared.commands.Command.TheVariants.{Read, Swap}
use Rattle.ds_base.specs.declared.commands.Next.{Next}
use Rattle.ds_base.specs.declared.commands.Next.TheVariants.{Rest, Send}
use Rattle.ds_base.specs.declared.commands.Response.{Response}
use Rattle.ds_base.specs.declared.commands.Response.TheVariants.{Got, Done, Miscompare, Fault}
use Rattle.ds_base.specs.declared.geometry.Geom.{Geom}
use Rattle.ds_base.specs.declared.sectors.Sector.{Sector}
use Rattle.ds_marks.specs.Slot.{IsSlot, slot_bytes}
use Rattle.ds_marks.specs.SlotIn.{slot_in}
use Rattle.ds_marks.specs.declared.slot.Journal.TheVariants.{Idle}
use Rattle.ds_marks.specs.declared.slot.Slot.{Slot}
use Rattle.ds_marks.specs.declared.slot.SlotState.TheVariants.{Free, Live}
use Rattle.ds_reg.specs.Registering.{IsPassed, Missed, Told, beaten_from, entered_from, left_from, slot_sector}
use Rattle.ds_reg.specs.declared.calls.RegCall.{RegCall}
use Rattle.ds_reg.specs.declared.calls.RegCall.TheVariants as calls
use Rattle.ds_reg.specs.declared.calls.RegEnd.{RegEnd}
use Rattle.ds_reg.specs.declared.calls.RegEnd.TheVariants as ends
use Rattle.ds_reg.specs.declared.steps.Stage.{Stage}
use Rattle.ds_reg.specs.declared.steps.Stage.TheVariants as stages
use Rattle.ds_reg.specs.declared.steps.Went.{Went}
use Rattle.ds_reg.specs.declared.steps.Went.TheVariants as went

-- a run: the shape of the volume, the host's id, what the host wants, and how far that is
pub record RegValue : Type 0 where
  pub geom : Geom
  pub host : List ℕ
  pub call : RegCall
  pub stage : Stage

-- the own image is live and idle, and the numbers that the call raises are not at their end
pub record IsOwnImage (g : Geom) (slot : ℕ) (image : Slot) : Type 0 where
  pub within : slot < g.slots
  pub is_slot : IsSlot image
  pub live : image.state ≡ Live
  pub idle : image.journal ≡ Idle

abbrev pub IsCall : Geom → RegCall → Type 0
IsCall g calls.Enter = ⊤
IsCall g (calls.Beat slot image) = IsOwnImage g slot image × (image.stamp < 2 ^ 62)
IsCall g (calls.Leave slot image) = IsOwnImage g slot image × (image.generation < 2 ^ 62)

abbrev pub image_sector : ℕ → Slot → Sector
image_sector slot image = record { bytes = slot_bytes slot image }

-- what is due for the own slot
abbrev pub due_of_own : Geom → RegCall → Next
due_of_own g calls.Enter = Rest
due_of_own g (calls.Beat slot image) = Send (Swap (slot_sector g slot) (image_sector slot image) (image_sector slot (beaten_from image)))
due_of_own g (calls.Leave slot image) = Send (Swap (slot_sector g slot) (image_sector slot image) (image_sector slot (left_from image)))

-- what is due: the Read of a slot, the Swap that enters it, or the Swap of the own slot
abbrev pub due : RegValue → Stage → Next
due run (stages.Looking slot missed) = Send (Read (slot_sector run.geom slot))
due run (stages.Entering slot image found missed) =
    Send (Swap (slot_sector run.geom slot) image (image_sector slot (entered_from run.host found)))
due run stages.Own = due_of_own run.geom run.call
due run stages.Over = Rest

-- one Swap of the slot missed, and this was shown there after it
pub record MissedBefore (g : Geom) (xs : List Exchange) (slot : ℕ) (image : Sector) : Type 0 where
  pub one : missed_at (slot_sector g slot) xs ≡ 1
  pub first : Missed g xs slot
  pub again : Contains (seen_of first.later) (slot_sector g slot, image)

-- no command named this sector so far
abbrev pub IsUntried : List Exchange → ℕ → Type 0
IsUntried xs at = (x : Exchange) → Contains xs x → target_of x.command ≢ at

-- no command named the slot so far, or one Swap of it missed
abbrev pub HasMissed : Geom → List Exchange → ℕ → Bool → Type 0
HasMissed g xs slot false = IsUntried xs (slot_sector g slot)
HasMissed g xs slot true = (missed_at (slot_sector g slot) xs ≡ 1) × Missed g xs slot

abbrev pub HasMissedBefore : Geom → List Exchange → ℕ → Sector → Bool → Type 0
HasMissedBefore g xs slot image false = missed_at (slot_sector g slot) xs ≡ 0
HasMissedBefore g xs slot image true = MissedBefore g xs slot image

-- the slots before this one were passed, no command named any after it, and nothing was done so far
pub record IsLooking (g : Geom) (xs : List Exchange) (slot : ℕ) : Type 0 where
  pub within : slot < g.slots
  pub passed : (before : ℕ) → before < slot → IsPassed g xs before
  pub untried : (after : ℕ) → slot < after → IsUntried xs (slot_sector g after)
  pub nothing_done : (x : Exchange) → Contains xs x → x.response ≢ Done

-- and this free image of it was shown last
pub record IsEntering (g : Geom) (xs : List Exchange) (slot : ℕ) (image : Sector) (found : Slot) : Type 0 where
  pub looking : IsLooking g xs slot
  pub last : IsLast (seen_of xs) (slot_sector g slot) image
  pub spelled : slot_in slot image.bytes ≡ Some found
  pub free : found.state ≡ Free

-- what a run at a stage has sent and heard
abbrev pub HasStage : Geom → RegCall → Stage → List Exchange → Type 0
HasStage g calls.Enter (stages.Looking slot missed) xs = IsLooking g xs slot × HasMissed g xs slot missed
HasStage g calls.Enter (stages.Entering slot image found missed) xs = IsEntering g xs slot image found
    × HasMissedBefore g xs slot image missed
HasStage g (calls.Beat slot image) stages.Own xs = xs ≡ []
HasStage g (calls.Leave slot image) stages.Own xs = xs ≡ []
HasStage g call stages.Over xs = ⊤
HasStage g call stage xs = ⊥

-- the run agrees with these exchanges
abbrev pub Agrees : RegValue → List Exchange → Type 0
Agrees run xs = HasStage run.geom run.call run.stage xs

-- a response leads to a stage of these exchanges, or to an end that they show
abbrev pub GoesTo : Geom → List ℕ → RegCall → Went → List Exchange → Type 0
GoesTo g host call (went.On stage) xs = HasStage g call stage xs
GoesTo g host call (went.Ended end) xs = Told g host call xs end

-- past a slot the next one is read, if there is one
pub record Passes (g : Geom) (slot : ℕ) (next : Went) : Type 0 where
  pub last : slot + 1 ≡ g.slots → next ≡ went.Ended ends.NoSlot
  pub more : slot + 1 ≢ g.slots → next ≡ went.On (stages.Looking (slot + 1) false)

-- a slot that was read is entered where it is free, and else passed
pub record Reads (g : Geom) (slot : ℕ) (missed : Bool) (image : Sector) (next : Went) : Type 0 where
  pub damaged : slot_in slot image.bytes ≡ None → next ≡ went.Ended (ends.Damaged (slot_sector g slot))
  pub free : (found : Slot) → slot_in slot image.bytes ≡ Some found → found.state ≡ Free
      → next ≡ went.On (stages.Entering slot image found missed)
  pub taken : (found : Slot) → slot_in slot image.bytes ≡ Some found → found.state ≢ Free → Passes g slot next

-- after the first Swap of a slot that misses it is read again, and the second ends the run
abbrev pub Misses : ℕ → Bool → Went → Type 0
Misses slot false next = next ≡ went.On (stages.Looking slot true)
Misses slot true next = next ≡ went.Ended (ends.Raced slot)

-- a call for the own slot, and how it ends where its Swap took effect
abbrev pub IsOwnCall : RegCall → Type 0
IsOwnCall calls.Enter = ⊥
IsOwnCall call = ⊤

abbrev pub end_of : RegCall → RegEnd
end_of (calls.Leave slot image) = ends.Left
end_of call = ends.Beaten

-- what may be answered to a Swap
abbrev pub FitsSwap : Response → Type 0
FitsSwap Done = ⊤
FitsSwap (Miscompare offset) = ⊤
FitsSwap Fault = ⊤
FitsSwap response = ⊥

-- the Swap of the own slot ends the run
abbrev pub EndsOwn : RegCall → Response → Went → Type 0
EndsOwn call Done next = next ≡ went.Ended (end_of call)
EndsOwn call (Miscompare offset) next = next ≡ went.Ended (ends.Fenced offset)
EndsOwn call Fault next = next ≡ went.Ended ends.Faulted
EndsOwn call response next = ⊥

-- where a response to what was due leads
abbrev pub Takes : Geom → RegCall → Stage → Response → Went → Type 0
Takes g call (stages.Looking slot missed) (Got image) next = Reads g slot missed image next
Takes g call (stages.Looking slot missed) Fault next = next ≡ went.Ended ends.Faulted
Takes g call (stages.Entering slot image found missed) Done next = next ≡ went.Ended (ends.Registered slot found.generation)
Takes g call (stages.Entering slot image found missed) (Miscompare offset) next = Misses slot missed next
Takes g call (stages.Entering slot image found missed) Fault next = next ≡ went.Ended ends.Faulted
Takes g call stages.Own response next = EndsOwn call response next
Takes g call stage response next = ⊥

-- what a step tells: the stage that it leads to, or the end
abbrev pub told_by : Option RegEnd → Stage → Went
told_by None stage = went.On stage
told_by (Some end) stage = went.Ended end

-- what a stage needs for its next command
abbrev pub FitsStage : Geom → RegCall → Stage → Type 0
FitsStage g call (stages.Looking slot missed) = (slot < g.slots) × (call ≡ calls.Enter)
FitsStage g call (stages.Entering slot image found missed) = (slot < g.slots) × IsSlot found × (found.state ≡ Free) × (call ≡ calls.Enter)
FitsStage g calls.Enter stages.Own = ⊥
FitsStage g call stages.Own = ⊤
FitsStage g call stages.Over = ⊤

pub record IsRun (run : RegValue) : Type 0 where
  pub is_geom : IsGeom run.geom
  pub is_call : IsCall run.geom run.call
  pub fits : FitsStage run.geom run.call run.stage

-- what the next stage needs is there
abbrev pub FitsGoing : Geom → RegCall → Went → Type 0
FitsGoing g call (went.On stage) = FitsStage g call stage × (stage ≢ stages.Over)
FitsGoing g call (went.Ended end) = ⊤

-- where a response led: to the next stage, or to an end that these exchanges show, and then the run is over
abbrev pub Leads : RegValue → Option RegEnd → List Exchange → Type 0
Leads run None xs = Agrees run xs × (run.stage ≢ stages.Over)
Leads run (Some end) xs = Told run.geom run.host run.call xs end × (run.stage ≡ stages.Over)

-- how many commands may come once this try at a slot is over: a second try unless one missed, and two tries at each slot after it
abbrev pub left_past : Geom → ℕ → Bool → ℕ
left_past g slot missed = (g.slots - (slot + 1)) * 4 + (if missed then 0 else 2)

-- how many commands are still to come at the most: a try at a slot is a Read and a Swap
abbrev pub left_at : Geom → Stage → ℕ
left_at g (stages.Looking slot missed) = left_past g slot missed + 2
left_at g (stages.Entering slot image found missed) = left_past g slot missed + 1
left_at g stages.Own = 1
left_at g stages.Over = 0

abbrev pub left_of : RegValue → ℕ
left_of run = left_at run.geom run.stage

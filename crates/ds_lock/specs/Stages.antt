-- What the taking of a lock has sent and heard at each stage, and what it sends next.
use Rattle.std.specs.Prelude.{◌≡◌, ◌≢◌, ℕ, ◌+◌, ◌^◌, ◌<◌, ◌⊎◌, ◌==◌, if◌then◌else◌, Bool, true, false, List, [], ◌∷◌, Option, Some, None, ⊤}
use Rattle.ds_base.specs.Exchanges.{Exchange, IsLast, seen_of}
use Rattle.ds_base.specs.Geometry.{IsGeom}
use Rattle.ds_base.specs.declared.commands.Command.TheVariants.{Read, Swap}
use Rattle.ds_base.specs.declared.commands.Next.{Next}
use Rattle.ds_base.specs.declared.commands.Next.TheVariants.{Rest, Send}
use Rattle.ds_base.specs.declared.commands.Response.{Response}
use Rattle.ds_base.specs.declared.commands.Response.TheVariants.{Got, Miscompare}
use Rattle.ds_base.specs.declared.sectors.Sector.{Sector}
use Rattle.ds_layout.specs.Places.{IsLock}
use Rattle.ds_marks.specs.Header.{IsHeader, IsOwner}
use Rattle.ds_marks.specs.Slot.{IsSlot}
use Rattle.ds_marks.specs.declared.header.Header.{Header}
use Rattle.ds_marks.specs.declared.slot.Slot.{Slot}
use Rattle.ds_marks.specs.declared.slot.SlotState.TheVariants as states
use Rattle.ds_watch.specs.Notes.{Note}
use Rattle.ds_lock.specs.Locking.{Cause, HasNoMiss, IsAfterMiss, IsEarlier, IsLoose, IsNoMiss, IsOwned, IsOwnedBy, IsRaced, IsShown, IsToBreak, IsUnshown, Misses, header_image, lock_sector, slot_image, slot_sector, taken_from}
use Rattle.ds_lock.specs.declared.ends.LockEnd.{LockEnd}
use Rattle.ds_lock.specs.declared.ends.LockEnd.TheVariants as ends
use Rattle.ds_lock.specs.declared.how.How.TheVariants.{Raced}
use Rattle.ds_lock.specs.declared.steps.Stage.{Stage}
use Rattle.ds_lock.specs.declared.steps.Stage.TheVariants as stages
use Rattle.ds_lock.specs.declared.steps.Wanted.{Wanted}
use Rattle.ds_lock.specs.declared.steps.Went.{Went}
use Rattle.ds_lock.specs.declared.steps.Went.TheVariants as went

-- a lock of the volume is wanted, by an owner that there can be
pub record IsWanted (w : Wanted) : Type 0 where
  pub is_geom : IsGeom w.geom
  pub is_lock : IsLock w.geom w.object
  pub within : w.own.slot < w.geom.slots
  pub is_owner : IsOwner (Some w.own)

-- a run: what it takes, whether a Swap missed, and how far it has come
pub record LockValue : Type 0 where
  pub wanted : Wanted
  pub missed : Bool
  pub stage : Stage

abbrev pub FitsHeader : Wanted → Header → Type 0
FitsHeader w h = IsHeader h × (h.object ≡ w.object)

-- what a stage needs for what comes next
abbrev pub FitsStage : Wanted → Stage → Type 0
FitsStage w stages.Header = ⊤
FitsStage w (stages.Owner h o) = FitsHeader w h × (h.owner ≡ Some o) × (o.slot < w.geom.slots)
FitsStage w (stages.Breaker h slot s by generation) = FitsHeader w h × (slot < w.geom.slots) × (by < w.geom.slots)
FitsStage w (stages.Taking h) = FitsHeader w h × (h.generation < 2 ^ 62)
FitsStage w (stages.Broken h slot s) = FitsHeader w h × (h.generation < 2 ^ 62)
FitsStage w stages.Over = ⊤

pub record IsRun (run : LockValue) : Type 0 where
  pub is_wanted : IsWanted run.wanted
  pub fits : FitsStage run.wanted run.stage

-- what comes next
abbrev pub due_at : Wanted → Stage → Next
due_at w stages.Header = Send (Read (lock_sector w.geom w.object))
due_at w (stages.Owner h o) = Send (Read (slot_sector w.geom o.slot))
due_at w (stages.Breaker h slot s by generation) = Send (Read (slot_sector w.geom by))
due_at w (stages.Taking h) = Send (Swap (lock_sector w.geom w.object) (header_image h) (header_image (taken_from w.own h)))
due_at w (stages.Broken h slot s) = Rest
due_at w stages.Over = Rest

abbrev pub due : LockValue → Next
due run = due_at run.wanted run.stage

-- what this pass has shown at a stage
abbrev pub HasSeen : Wanted → Stage → List Exchange → Type 0
HasSeen w stages.Header pass = pass ≡ []
HasSeen w (stages.Owner h o) pass = IsOwned w pass h o × (o.slot < w.geom.slots) × IsEarlier w o
HasSeen w (stages.Breaker h slot s by generation) pass =
    IsOwnedBy w pass h slot s × (s.state ≡ states.Breaking by generation) × (by < w.geom.slots) × (by ≢ slot)
HasSeen w (stages.Taking h) pass = IsShown w pass h × IsLoose w pass h × (h.generation < 2 ^ 62)
HasSeen w (stages.Broken h slot s) pass = IsOwnedBy w pass h slot s × (h.generation < 2 ^ 62)
HasSeen w stages.Over pass = ⊤

-- the pass is all that was sent and heard, or what came after the one Swap that missed
abbrev pub IsPass : Wanted → Bool → List Exchange → List Exchange → Type 0
IsPass w false xs pass = (xs ≡ pass) × HasNoMiss pass
IsPass w true xs pass = IsAfterMiss w xs pass

-- the run has sent and heard this
pub record Agrees (run : LockValue) (xs : List Exchange) : Type 0 where
  pub pass : List Exchange
  pub is_pass : IsPass run.wanted run.missed xs pass
  pub seen : HasSeen run.wanted run.stage pass

-- where what a pass shows leads
abbrev pub Goes : Wanted → List Note → ℕ → List Exchange → Went → Type 0
Goes w notes now pass (went.On stage) = HasSeen w stage pass
Goes w notes now pass (went.Ended end) = Cause w notes now pass end
Goes w notes now pass (went.Breaks h slot s) = IsToBreak w notes now pass h slot s
Goes w notes now pass went.Missed = ⊥

-- where one more exchange leads
abbrev pub GoesBy : Wanted → List Note → ℕ → Exchange → List Exchange → Went → Type 0
GoesBy w notes now x pass went.Missed = Misses w x pass
GoesBy w notes now x pass next = IsNoMiss x.response × Goes w notes now (x ∷ pass) next

-- how many commands are still to come at the most, but for those of breaks
abbrev pub left_at : Stage → ℕ
left_at stages.Header = 4
left_at (stages.Owner h o) = 3
left_at (stages.Breaker h slot s by generation) = 2
left_at (stages.Taking h) = 1
left_at (stages.Broken h slot s) = 1
left_at stages.Over = 0

abbrev pub left_after : Went → ℕ
left_after (went.On stage) = left_at stage
left_after next = 0

-- a command is due
abbrev pub IsGoing : Stage → Type 0
IsGoing (stages.Broken h slot s) = ⊥
IsGoing stages.Over = ⊥
IsGoing stage = ⊤

-- what is needed there; that a break is needed is no end
abbrev pub FitsWent : Wanted → Went → Type 0
FitsWent w (went.On stage) = FitsStage w stage × IsGoing stage
FitsWent w (went.Ended (ends.NeedsBreak slot s)) = ⊥
FitsWent w (went.Ended end) = ⊤
FitsWent w (went.Breaks h slot s) = FitsHeader w h × (h.generation < 2 ^ 62)
FitsWent w went.Missed = ⊤

-- a slot of others that was read is noted
abbrev pub with_note : Wanted → ℕ → Sector → ℕ → List Note → List Note
with_note w slot sector now notes = if slot == w.own.slot then notes else record { slot = slot; image = sector; tick = now } ∷ notes

-- what is noted once this was answered at a stage
abbrev pub noted_at : Wanted → Stage → Response → ℕ → List Note → List Note
noted_at w (stages.Owner h o) (Got sector) now notes = with_note w o.slot sector now notes
noted_at w (stages.Breaker h slot s by generation) (Got sector) now notes = with_note w by sector now notes
noted_at w stage response now notes = notes

abbrev pub notes_after : LockValue → Response → ℕ → List Note → List Note
notes_after run response now notes = noted_at run.wanted run.stage response now notes

-- a run ends so by what it has sent and heard
pub record HasEnded (run : LockValue) (notes : List Note) (now : ℕ) (xs : List Exchange) (end : LockEnd) : Type 0 where
  pub pass : List Exchange
  pub is_pass : IsPass run.wanted run.missed xs pass
  pub cause : Cause run.wanted notes now pass end

abbrev pub Told : LockValue → List Note → ℕ → List Exchange → LockEnd → Type 0
Told run notes now xs (ends.Busy Raced) = IsRaced run.wanted xs
Told run notes now xs end = HasEnded run notes now xs end

-- a break of this slot is awaited
abbrev pub Awaits : Stage → ℕ → Slot → Type 0
Awaits stage slot s = (h : Header) × (stage ≡ stages.Broken h slot s)

-- where a run stands after an end: a break is awaited, or nothing is to come
abbrev pub StandsAfter : LockValue → List Exchange → LockEnd → Type 0
StandsAfter run xs (ends.NeedsBreak slot s) = Awaits run.stage slot s × Agrees run xs
StandsAfter run xs end = run.stage ≡ stages.Over

-- where a response led
abbrev pub Leads : LockValue → Option LockEnd → List Note → ℕ → List Exchange → Type 0
Leads run None notes now xs = Agrees run xs × IsGoing run.stage
Leads run (Some end) notes now xs = Told run notes now xs end × StandsAfter run xs end

-- and how many with those after a Swap that misses
abbrev pub left_of : LockValue → ℕ
left_of run = left_at run.stage + (if run.missed then 0 else 4)

-- exchanges of a break that turned the slot free: it is in a later generation then, and the header wasn't shown
pub record HasFreed (w : Wanted) (slot : ℕ) (s : Slot) (xs : List Exchange) : Type 0 where
  pub image : Slot
  pub is_slot : IsSlot image
  pub last : IsLast (seen_of xs) (slot_sector w.geom slot) (slot_image slot image)
  pub over : s.generation < image.generation
  pub apart : IsUnshown xs (lock_sector w.geom w.object)
  pub none_missed : HasNoMiss xs

-- what a break verifies: what it saw there last itself, or the image that it began with
abbrev pub IsVerified : Wanted → ℕ → Slot → List Exchange → Sector → Type 0
IsVerified w slot s xs verify =
    IsLast (seen_of xs) (slot_sector w.geom slot) verify
    ⊎ ((verify ≡ slot_image slot s) × IsUnshown xs (slot_sector w.geom slot))

-- exchanges of a break whose newest is a Swap of the slot that found another image in place
pub record HasMissed (w : Wanted) (slot : ℕ) (s : Slot) (xs : List Exchange) : Type 0 where
  pub verify : Sector
  pub fresh : Sector
  pub offset : ℕ
  pub tick : ℕ
  pub earlier : List Exchange
  pub newest : xs ≡ record { command = Swap (slot_sector w.geom slot) verify fresh; response = Miscompare offset; tick = tick } ∷ earlier
  pub verified : IsVerified w slot s earlier verify
  pub none_before : HasNoMiss earlier

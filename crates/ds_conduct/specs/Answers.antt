-- What a host may answer, by the kind of the command that it sent and by the response.
use Rattle.std.specs.Prelude.{◌≡◌, ℕ, ◌/◌, ◌^◌, ◌≤◌, ◌⊎◌, List, [], ◌∷◌, ◌++◌, Option, None, Some, ⊤}
use Rattle.std.specs.List.{Contains}
use Rattle.ds_base.specs.Exchanges.{Exchange}
use Rattle.ds_base.specs.declared.geometry.Geom.{Geom}
use Rattle.ds_base.specs.declared.names.Key.{Key}
use Rattle.ds_base.specs.declared.sectors.Sector.{Sector}
use Rattle.ds_base.specs.declared.commands.Command.{Command}
use Rattle.ds_base.specs.declared.commands.Command.TheVariants.{Read, Write, Swap}
use Rattle.ds_base.specs.declared.commands.Response.{Response}
use Rattle.ds_base.specs.declared.commands.Response.TheVariants.{Got, Done, Miscompare, Fault}
use Rattle.ds_lock.specs.declared.how.How.TheVariants.{Held, Recovering, Raced}
use Rattle.ds_marks.specs.HeaderIn.{header_in}
use Rattle.ds_marks.specs.declared.header.Header.{Header}
use Rattle.ds_tree.specs.declared.calls.CallOf.{CallOf}
use Rattle.ds_tree.specs.declared.calls.CallOf.TheVariants.{At}
use Rattle.ds_tree.specs.declared.calls.HostCallOf.{HostCallOf}
use Rattle.ds_tree.specs.declared.calls.HostCallOf.TheVariants as calls
use Rattle.ds_tree.specs.declared.calls.TreeReply.{TreeReply}
use Rattle.ds_watch.specs.Notes.{Note}
use Rattle.ds_conduct.specs.Causes.{HasNoSlot, IsBadSlot, IsDamaged, IsHeld, IsLockRaced, IsRecovering, IsSlotRaced, IsWornOut, header_sector}
use Rattle.ds_conduct.specs.Digests.{Own, Digest}
use Rattle.ds_conduct.specs.Exchanges.{IsAt, GotOf}
use Rattle.ds_conduct.specs.Guards.{MaySend, MaySwap, Enter, Leave, Beat, Commit, Break, Clear, Lock}
use Rattle.ds_conduct.specs.Journals.{PlansReply}
use Rattle.ds_conduct.specs.Settings.{Setting}
use Rattle.ds_conduct.specs.declared.answers.HostAnswer.{HostAnswer}
use Rattle.ds_conduct.specs.declared.answers.HostAnswer.TheVariants.{Tree, Registered, Plain, Busy, NoSlot, Fenced, DeviceFault, InDoubt, Damaged, WornOut}
use Rattle.ds_conduct.specs.declared.answers.Spot.TheVariants as spots

-- a call that is answered by Plain at a Swap of the own slot from Live to Live
abbrev pub IsPlainCall : Option (HostCallOf Key) → Type 0
IsPlainCall (Some calls.Beat) = ⊤
IsPlainCall (Some calls.Scan) = ⊤
IsPlainCall (Some (calls.Close file)) = ⊤
IsPlainCall call = ⊥

-- a Fault before the answer is told so, and one in a tail isn't told
abbrev pub TellsFault : Option HostAnswer → HostAnswer → Option HostAnswer → Type 0
TellsFault None fault answer = answer ≡ Some fault
TellsFault (Some told) fault answer = answer ≡ None

-- the call that a planner plans, and the lock objects that are held at its beginning
pub data IsPlanned (g : Geom) (made : Option (HostCallOf Key)) : CallOf Key → List ℕ → Type 0 where
  OfTree : (call : CallOf Key) → made ≡ Some (calls.Tree call) → IsPlanned g made call []
  OfPut : (file : Key) (sector fill : ℕ) → made ≡ Some (calls.Put file sector fill)
      → IsPlanned g made (At file (sector / g.block)) (file.object ∷ [])
  OfGet : (file : Key) (sector : ℕ) → made ≡ Some (calls.Get file sector) → IsPlanned g made (At file (sector / g.block)) (file.object ∷ [])

module _ (setting : Setting) (d : Digest) (now : ℕ) where
  -- the call read a header without owner before and after what the planner was shown
  pub record IsNoted (own : Own) (plan : CallOf Key) (reply : TreeReply) : Type 0 where
    pub object : ℕ
    pub later : List Exchange
    pub second : Exchange
    pub between : List Exchange
    pub first : Exchange
    pub earlier : List Exchange
    pub is_second : IsAt d.exchanges later second (between ++ first ∷ earlier)
    pub header : Sector
    pub got_second : GotOf second (header_sector setting.geom object) header
    pub got_first : GotOf first (header_sector setting.geom object) header
    pub spelled : Header
    pub spells : header_in header.bytes ≡ Some spelled
    pub same_object : spelled.object ≡ object
    pub unowned : spelled.owner ≡ None
    pub planned : PlansReply setting.geom own (setting.plans own.slot plan) (object ∷ []) between reply

  -- a reply without a change: the planner's, under locks, of a file that is held open, or by what was read between two Reads of a
  -- header without owner
  pub data TellsReply (own : Own) (reply : TreeReply) : Type 0 where
    UnderLocks : (call : CallOf Key) → d.call ≡ Some (calls.Tree call)
        → PlansReply setting.geom own (setting.plans own.slot call) [] d.exchanges reply
        → TellsReply own reply
    Between : (call : CallOf Key) → d.call ≡ Some (calls.Tree call) → IsNoted own call reply → TellsReply own reply
    OfPut : (file : Key) (sector fill : ℕ) → d.call ≡ Some (calls.Put file sector fill) → Contains d.files file
        → PlansReply setting.geom own (setting.plans own.slot (At file (sector / setting.geom.block))) (file.object ∷ []) d.exchanges reply
        → TellsReply own reply
    OfGet : (file : Key) (sector : ℕ) → d.call ≡ Some (calls.Get file sector) → Contains d.files file
        → PlansReply setting.geom own (setting.plans own.slot (At file (sector / setting.geom.block))) (file.object ∷ []) d.exchanges reply
        → TellsReply own reply

  -- a host that wants to leave its slot can't raise the generation
  abbrev pub IsWornLeave : Own → Type 0
  IsWornLeave own = (d.call ≡ Some calls.Unregister) × (2 ^ 62 ≤ own.generation)

  -- at a Swap of the own slot that goes on in its generation with an idle journal
  abbrev pub TellsBeat : Own → Option HostAnswer → Type 0
  TellsBeat own None = ⊤
  TellsBeat own (Some (Tree reply)) = TellsReply own reply
  TellsBeat own (Some (Registered slot generation)) = (d.call ≡ Some calls.Register) × (slot ≡ own.slot) × (generation ≡ own.generation)
  TellsBeat own (Some Plain) = IsPlainCall d.call
  TellsBeat own (Some (Damaged at)) = IsDamaged setting own d.notes d.exchanges (IsPlanned setting.geom d.call) at
  TellsBeat own (Some WornOut) = IsWornOut setting own d.exchanges (IsPlanned setting.geom d.call) ⊎ IsWornLeave own
  TellsBeat own (Some answer) = ⊥

  -- at one that finds another image in place: the host is fenced, or in a tail tells nothing
  abbrev pub TellsMiss : Option HostAnswer → ℕ → Option HostAnswer → Type 0
  TellsMiss None offset answer = answer ≡ Some (Fenced offset)
  TellsMiss (Some told) offset answer = answer ≡ None

  -- at a Swap of a slot or header that finds another image in place, with that exchange
  abbrev pub TellsRace : List Exchange → Option HostAnswer → Type 0
  TellsRace xs None = ⊤
  TellsRace xs (Some (Busy (spots.Object object) Raced)) = IsLockRaced setting.geom xs object
  TellsRace xs (Some (Busy (spots.Slot slot) Raced)) = IsSlotRaced setting.geom xs slot
  TellsRace xs (Some answer) = ⊥

  abbrev pub TellsSwap : (at : ℕ) (verify fresh : Sector) → MaySwap setting d now at verify fresh → Response → List Exchange
      → Option HostAnswer → Type 0
  TellsSwap at verify fresh (Enter e) Done xs answer = answer ≡ Some (Registered e.swap.slot e.swap.new.generation)
  TellsSwap at verify fresh (Leave l) Done xs answer = answer ≡ Some Plain
  TellsSwap at verify fresh (Beat b) Done xs answer = TellsBeat b.renewal.swap.own answer
  TellsSwap at verify fresh (Commit c) Done xs answer = answer ≡ Some (Tree c.reply)
  TellsSwap at verify fresh kind Done xs answer = answer ≡ None
  TellsSwap at verify fresh (Enter e) (Miscompare offset) xs answer = TellsRace xs answer
  TellsSwap at verify fresh (Break b) (Miscompare offset) xs answer = TellsRace xs answer
  TellsSwap at verify fresh (Clear c) (Miscompare offset) xs answer = TellsRace xs answer
  TellsSwap at verify fresh (Lock l) (Miscompare offset) xs answer = TellsRace xs answer
  TellsSwap at verify fresh kind (Miscompare offset) xs answer = TellsMiss d.answer offset answer
  TellsSwap at verify fresh (Commit c) Fault xs answer = TellsFault d.answer InDoubt answer
  TellsSwap at verify fresh kind Fault xs answer = TellsFault d.answer DeviceFault answer
  TellsSwap at verify fresh kind (Got s) xs answer = ⊥

  -- what a Read may tell, where a generation is held and where none is: that a lock is held or being recovered, that no slot is
  -- free, that a slot is damaged
  abbrev pub TellsRead : Option Own → List Note → List Exchange → Option HostAnswer → Type 0
  TellsRead own notes xs None = ⊤
  TellsRead (Some own) notes xs (Some (Busy (spots.Object object)
      (Held slot image))) = IsHeld setting.geom own notes now xs object slot image
  TellsRead (Some own) notes xs (Some (Busy (spots.Object object) (Recovering slot image breaker))) =
      IsRecovering setting.geom own xs object slot image breaker
  TellsRead None notes xs (Some NoSlot) = HasNoSlot setting.geom xs
  TellsRead None notes xs (Some (Damaged at)) = IsBadSlot setting.geom xs at
  TellsRead own notes xs (Some answer) = ⊥

  -- the answer at a command and its response, with what is noted and exchanged then
  abbrev pub TellsSent : (command : Command) → MaySend setting d now command → Response → List Note → List Exchange → Option HostAnswer
      → Type 0
  TellsSent (Swap at verify fresh) may response notes xs answer = TellsSwap at verify fresh may response xs answer
  TellsSent (Read at) may (Got s) notes xs answer = TellsRead d.own notes xs answer
  TellsSent (Write at fresh) may Done notes xs answer = answer ≡ None
  TellsSent command may Fault notes xs answer = TellsFault d.answer DeviceFault answer
  TellsSent command may response notes xs answer = ⊥

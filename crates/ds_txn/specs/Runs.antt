-- How far a change has come, what is sent next, and where an answer leads.
use Rattle.std.specs.Prelude.{◌≡◌, ℕ, ◌+◌, ◌<◌, ◌⊎◌, nat_le, if◌then◌else◌, List, [], ◌∷◌, length, map, Option, Some, None, ⊤}
use Rattle.ds_base.specs.Exchanges.{Exchange}
use Rattle.ds_base.specs.declared.commands.Command.{Command}
use Rattle.ds_base.specs.declared.commands.Command.TheVariants.{Swap}
use Rattle.ds_base.specs.declared.commands.Next.{Next}
use Rattle.ds_base.specs.declared.commands.Next.TheVariants.{Rest, Send, Late}
use Rattle.ds_base.specs.declared.commands.Response.{Response}
use Rattle.ds_base.specs.declared.commands.Response.TheVariants.{Done, Miscompare, Fault}
use Rattle.ds_marks.specs.declared.slot.Slot.{Slot}
use Rattle.ds_txn.specs.Changing.{Change, IsChange, beat, beaten, commit, committed, index_write, journal_write, journalled, place_write, placed, retire, retired}
use Rattle.ds_txn.specs.declared.ends.TxnEnd.{TxnEnd}
use Rattle.ds_txn.specs.declared.ends.TxnEnd.TheVariants as ends
use Rattle.ds_txn.specs.declared.stages.Stage.{Stage}
use Rattle.ds_txn.specs.declared.stages.Stage.TheVariants as stages

-- a run: its change, the own slot as its last Swap wrote it, when that was, and how far the run has come
pub record TxnValue : Type 0 where
  pub change : Change
  pub mine : Slot
  pub last : ℕ
  pub stage : Stage

-- a plain write is late 16 ticks after the last Swap of the own slot
abbrev pub in_time : ℕ → ℕ → Command → Next
in_time last now command = if nat_le (last + 16) now then Late now last else Send command

-- what is sent next
abbrev pub due_at : Change → ℕ → ℕ → Stage → Next
due_at c last now stages.Beat = Send (beat c)
due_at c last now (stages.Journal i) = in_time last now (journal_write c i)
due_at c last now stages.Index = in_time last now (index_write c)
due_at c last now stages.Commit = Send (commit c)
due_at c last now (stages.Place i) = in_time last now (place_write c i)
due_at c last now stages.Retire = Send (retire c)
due_at c last now stages.Over = Rest

abbrev pub due : TxnValue → ℕ → Next
due run now = due_at run.change run.last now run.stage

-- what was sent before a stage, the newest first
abbrev pub sent_before : Change → Stage → List Command
sent_before c stages.Beat = []
sent_before c (stages.Journal i) = journalled c i
sent_before c stages.Index = journalled c (length c.pairs)
sent_before c stages.Commit = index_write c ∷ journalled c (length c.pairs)
sent_before c (stages.Place i) = placed c i
sent_before c stages.Retire = placed c (length c.pairs)
sent_before c stages.Over = retire c ∷ placed c (length c.pairs)

-- each was done
abbrev pub AreDone : List Exchange → Type 0
AreDone [] = ⊤
AreDone (x ∷ xs) = (x.response ≡ Done) × AreDone xs

-- the newest Swap came at this tick
abbrev pub IsSwapTick : Command → ℕ → ℕ → Type 0 → Type 0
IsSwapTick (Swap at verify fresh) tick last rest = tick ≡ last
IsSwapTick command tick last rest = rest

abbrev pub SwappedAt : List Exchange → ℕ → Type 0
SwappedAt [] last = ⊤
SwappedAt (x ∷ xs) last = IsSwapTick x.command x.tick last (SwappedAt xs last)

-- the run has sent this and heard that all of it was done
pub record Agrees (run : TxnValue) (xs : List Exchange) : Type 0 where
  pub sent : map (λ (x : Exchange). x.command) xs ≡ sent_before run.change run.stage
  pub done : AreDone xs
  pub swapped : SwappedAt xs run.last

-- the own slot at a stage
abbrev pub IsMine : Change → Stage → Slot → Type 0
IsMine c stages.Beat mine = mine ≡ c.image
IsMine c (stages.Journal i) mine = mine ≡ beaten c.image
IsMine c stages.Index mine = mine ≡ beaten c.image
IsMine c stages.Commit mine = mine ≡ beaten c.image
IsMine c (stages.Place i) mine = mine ≡ committed c.txn (length c.pairs) c.image
IsMine c stages.Retire mine = mine ≡ committed c.txn (length c.pairs) c.image
IsMine c stages.Over mine = ⊤

-- the number of a pair is one
abbrev pub IsStage : Change → Stage → Type 0
IsStage c (stages.Journal i) = i < length c.pairs
IsStage c (stages.Place i) = i < length c.pairs
IsStage c stage = ⊤

pub record IsRun (run : TxnValue) : Type 0 where
  pub is_change : IsChange run.change
  pub is_stage : IsStage run.change run.stage
  pub is_mine : IsMine run.change run.stage run.mine

-- the stage after one that was done
abbrev pub IsNext : Change → Stage → Stage → Type 0
IsNext c stages.Beat next = next ≡ stages.Journal 0
IsNext c (stages.Journal i) next = ((i + 1 < length c.pairs) × (next ≡ stages.Journal (i + 1))) ⊎ ((i + 1 ≡ length c.pairs)
    × (next ≡ stages.Index))
IsNext c stages.Index next = next ≡ stages.Commit
IsNext c stages.Commit next = next ≡ stages.Place 0
IsNext c (stages.Place i) next = ((i + 1 < length c.pairs) × (next ≡ stages.Place (i + 1))) ⊎ ((i + 1 ≡ length c.pairs)
    × (next ≡ stages.Retire))
IsNext c stages.Retire next = next ≡ stages.Over
IsNext c stages.Over next = ⊥

-- what is told when a stage was done
abbrev pub told_by : Stage → Option TxnEnd
told_by stages.Commit = Some ends.Committed
told_by stages.Retire = Some ends.Retired
told_by stage = None

-- what is told of a fault
abbrev pub fault_at : Stage → TxnEnd
fault_at stages.Commit = ends.InDoubt
fault_at stage = ends.Faulted

-- the own slot after a stage was done: as its Swap wrote it, or as it was
abbrev pub mine_after : Change → Stage → Slot → Slot
mine_after c stages.Beat mine = beaten c.image
mine_after c stages.Commit mine = committed c.txn (length c.pairs) c.image
mine_after c stages.Retire mine = retired c.image
mine_after c stage mine = mine

-- where a response led, and what it told
abbrev pub Leads : TxnValue → Response → TxnValue → Option TxnEnd → Type 0
Leads old Done new result = IsNext old.change old.stage new.stage × (result ≡ told_by old.stage)
    × (new.mine ≡ mine_after old.change old.stage old.mine)
Leads old (Miscompare offset) new result = (new.stage ≡ stages.Over) × (result ≡ Some (ends.Fenced offset)) × (new.mine ≡ old.mine)
Leads old Fault new result = (new.stage ≡ stages.Over) × (result ≡ Some (fault_at old.stage)) × (new.mine ≡ old.mine)
Leads old response new result = ⊥

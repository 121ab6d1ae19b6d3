-- How far a break has come, what is sent next, and where an answer leads.
use Rattle.std.specs.Prelude.{◌≡◌, ℕ, ◌+◌, ◌<◌, ◌≤◌, ◌⊎◌, nat_le, if◌then◌else◌, List, [], ◌∷◌, length, map, Option, Some, None, ⊤}
use Rattle.ds_base.specs.Exchanges.{Exchange}
use Rattle.ds_base.specs.declared.commands.Command.{Command}
use Rattle.ds_base.specs.declared.commands.Command.TheVariants.{Swap}
use Rattle.ds_base.specs.declared.commands.Next.{Next}
use Rattle.ds_base.specs.declared.commands.Next.TheVariants.{Rest, Send, Late}
use Rattle.ds_base.specs.declared.commands.Response.{Response}
use Rattle.ds_base.specs.declared.commands.Response.TheVariants.{Got, Done, Miscompare, Fault}
use Rattle.ds_base.specs.declared.sectors.Sector.{Sector}
use Rattle.ds_marks.specs.declared.slot.Journal.TheVariants.{Idle, Committed}
use Rattle.ds_marks.specs.declared.slot.Slot.{Slot}
use Rattle.ds_break.specs.Breaking.{Break, HasReplayed, IsBreak, IsIndexOf, IsReplayed, Steps, beat, beaten, break_swap, broke, clear_swap, fetch, index_read, journal_sector, place_write}
use Rattle.ds_break.specs.declared.ends.BreakEnd.{BreakEnd}
use Rattle.ds_break.specs.declared.ends.BreakEnd.TheVariants as ends
use Rattle.ds_break.specs.declared.stages.Stage.{Stage}
use Rattle.ds_break.specs.declared.stages.Stage.TheVariants as stages

-- a run: its break, the own slot as its last Swap wrote it, when that was, the targets of the index that was read, and how far it has come
pub record BreakValue : Type 0 where
  pub what : Break
  pub mine : Slot
  pub last : ℕ
  pub targets : List ℕ
  pub stage : Stage

-- a plain write is late 16 ticks after the last Swap of the own slot
abbrev pub in_time : ℕ → ℕ → Command → Next
in_time last now command = if nat_le (last + 16) now then Late now last else Send command

-- what is sent next
abbrev pub due_at : Break → ℕ → List ℕ → ℕ → Stage → Next
due_at b last targets now stages.Breaking = Send (break_swap b)
due_at b last targets now stages.Index = Send (index_read b)
due_at b last targets now stages.Beat = Send (beat b)
due_at b last targets now (stages.Fetch i) = Send (fetch b i)
due_at b last targets now (stages.Place i s) = in_time last now (place_write targets i s)
due_at b last targets now stages.Clearing = Send (clear_swap b)
due_at b last targets now stages.Over = Rest

abbrev pub due : BreakValue → ℕ → Next
due run now = due_at run.what run.last run.targets now run.stage

-- what was sent and answered before a stage
abbrev pub HasCome : Break → List ℕ → Stage → Steps → Type 0
HasCome b targets stages.Breaking steps = steps ≡ []
HasCome b targets stages.Index steps = steps ≡ broke b
HasCome b targets stages.Beat steps = (sector : Sector) × IsIndexOf b sector targets × (steps ≡ (index_read b, Got sector) ∷ broke b)
HasCome b targets (stages.Fetch i) steps = HasReplayed b targets i steps
HasCome b targets (stages.Place i s) steps = (rest : Steps) × HasReplayed b targets i rest × (steps ≡ (fetch b i, Got s) ∷ rest)
HasCome b targets stages.Clearing steps = IsReplayed b targets steps
HasCome b targets stages.Over steps = ⊤

-- the newest Swap came at this tick
abbrev pub IsSwapTick : Command → ℕ → ℕ → Type 0 → Type 0
IsSwapTick (Swap at verify fresh) tick last rest = tick ≡ last
IsSwapTick command tick last rest = rest

abbrev pub SwappedAt : List Exchange → ℕ → Type 0
SwappedAt [] last = ⊤
SwappedAt (x ∷ xs) last = IsSwapTick x.command x.tick last (SwappedAt xs last)

-- where a plain write is due, the run knows when the own slot was swapped last
abbrev pub HasLease : Stage → List Exchange → ℕ → Type 0
HasLease (stages.Fetch i) xs last = SwappedAt xs last
HasLease (stages.Place i s) xs last = SwappedAt xs last
HasLease stage xs last = ⊤

-- the run has sent and heard this
pub record Agrees (run : BreakValue) (xs : List Exchange) : Type 0 where
  pub come : HasCome run.what run.targets run.stage (map (λ (x : Exchange). (x.command, x.response)) xs)
  pub lease : HasLease run.stage xs run.last

-- the own slot at a stage
abbrev pub IsMine : Break → Stage → Slot → Type 0
IsMine b stages.Breaking mine = mine ≡ b.mine
IsMine b stages.Index mine = mine ≡ b.mine
IsMine b stages.Beat mine = mine ≡ b.mine
IsMine b (stages.Fetch i) mine = mine ≡ beaten b.mine
IsMine b (stages.Place i s) mine = mine ≡ beaten b.mine
IsMine b stages.Clearing mine = ⊤
IsMine b stages.Over mine = ⊤

-- the number of a pair is one; the index is read where something was committed
abbrev pub IsStage : Break → List ℕ → Stage → Type 0
IsStage b targets (stages.Fetch i) = i < length targets
IsStage b targets (stages.Place i s) = i < length targets
IsStage b targets stages.Beat = 1 ≤ length targets
IsStage b targets stage = ⊤

pub record IsRun (run : BreakValue) : Type 0 where
  pub is_break : IsBreak run.what
  pub is_stage : IsStage run.what run.targets run.stage
  pub is_mine : IsMine run.what run.stage run.mine
  pub few : length run.targets ≤ 31

-- an answer that leads on, to the next stage
abbrev pub LeadsOn : Break → List ℕ → Stage → Response → List ℕ → Stage → Type 0
LeadsOn b targets stages.Breaking Done more next =
    ((b.image.journal ≡ Idle) × (next ≡ stages.Clearing)) ⊎ ((txn count : ℕ) × (b.image.journal ≡ Committed txn count)
    × (next ≡ stages.Index))
LeadsOn b targets stages.Index (Got s) more next = IsIndexOf b s more × (next ≡ stages.Beat)
LeadsOn b targets stages.Beat Done more next = next ≡ stages.Fetch 0
LeadsOn b targets (stages.Fetch i) (Got s) more next = next ≡ stages.Place i s
LeadsOn b targets (stages.Place i s) Done more next =
    ((i + 1 < length targets) × (next ≡ stages.Fetch (i + 1))) ⊎ ((i + 1 ≡ length targets) × (next ≡ stages.Clearing))
LeadsOn b targets stage response more next = ⊥

-- an answer that ends a break
abbrev pub Ends : Break → Stage → Response → BreakEnd → Type 0
Ends b stages.Breaking (Miscompare offset) end = end ≡ ends.Miscompared
Ends b stages.Clearing (Miscompare offset) end = end ≡ ends.Miscompared
Ends b stages.Beat (Miscompare offset) end = end ≡ ends.Fenced offset
Ends b stages.Index (Got s) end = ((targets : List ℕ) → IsIndexOf b s targets → ⊥) × (end ≡ ends.Damaged (journal_sector b 31))
Ends b stages.Clearing Done end = end ≡ ends.Freed
Ends b stage Fault end = end ≡ ends.Faulted
Ends b stage response end = ⊥

-- the own slot after an answer: as the renewal wrote it, or as it was
abbrev pub mine_after : Break → Stage → Response → Slot → Slot
mine_after b stages.Beat Done mine = beaten b.mine
mine_after b stage response mine = mine

-- where a response led, and what it told
abbrev pub Leads : BreakValue → Response → BreakValue → Option BreakEnd → Type 0
Leads old response new None = LeadsOn old.what old.targets old.stage response new.targets new.stage
Leads old response new (Some end) = Ends old.what old.stage response end × (new.stage ≡ stages.Over)

-- Generations that are broken, slots that are entered, and who may do so: what holds of every history.
use Rattle.std.specs.Prelude.{◌≡◌, ◌≢◌, ℕ, ◌+◌, ◌<◌, ◌≤◌, Bool, true, List, length, take, slice_get, Option, Some, ◌⊎◌, None, ⊤}
use Rattle.ds_base.specs.declared.geometry.Geom.{Geom}
use Rattle.ds_base.specs.declared.sectors.Sector.{Sector}
use Rattle.ds_base.specs.declared.commands.Command.TheVariants.{Write, Swap}
use Rattle.ds_base.specs.declared.commands.Response.{Response}
use Rattle.ds_base.specs.declared.commands.Response.TheVariants.{Done, Miscompare}
use Rattle.ds_marks.specs.SlotIn.{slot_in}
use Rattle.ds_marks.specs.declared.slot.Slot.{Slot}
use Rattle.ds_marks.specs.declared.slot.SlotState.TheVariants.{Free, Live, Breaking}
use Rattle.ds_conduct.specs.declared.answers.HostAnswer.{HostAnswer}
use Rattle.ds_conduct.specs.declared.answers.HostAnswer.TheVariants.{Tree, Registered, Plain}
use Rattle.ds_conduct.specs.Digests.{Digest, Own, own_pair}
use Rattle.ds_conduct.specs.Judging.{IsJudged}
use Rattle.ds_conduct.specs.Marks.{phase_at}
use Rattle.ds_log.specs.declared.logs.Step.{Step}
use Rattle.ds_log.specs.declared.logs.Step.TheVariants.{Sent}
use Rattle.ds_log.specs.Turns.{Turn, digest, sectors_after}
use Rattle.ds_log.specs.Standing.{IsPast, IsOver, Apart, Stands}

-- the step is a landed Swap of slot a that takes effect
pub record TakesSlot (g : Geom) (sectors : List Sector) (step : Step) (a : ℕ) : Type 0 where
  pub within : a < g.slots
  pub under : Option (ℕ × ℕ)
  pub verify : Sector
  pub fresh : Sector
  pub response : Response
  pub took : Bool
  pub is : step ≡ Sent under (Swap (2 + a) verify fresh) response true took
  pub found : slice_get sectors (2 + a) ≡ Some verify

-- the Swap turns a slot of this value to a slot of that one
pub record TurnsSlot (g : Geom) (sectors : List Sector) (step : Step) (a : ℕ) : Type 0 where
  pub swap : TakesSlot g sectors step a
  pub old : Slot
  pub new : Slot
  pub was : slot_in a swap.verify.bytes ≡ Some old
  pub is : slot_in a swap.fresh.bytes ≡ Some new

-- a Swap under another generation turns the Live image of this generation into a Breaking one
pub record BreaksSlot (g : Geom) (sectors : List Sector) (step : Step) (a generation : ℕ) : Type 0 where
  pub turns : TurnsSlot g sectors step a
  pub other : turns.swap.under ≢ Some (a, generation)
  pub live : turns.old.state ≡ Live
  pub same_generation : turns.old.generation ≡ generation
  pub by : ℕ
  pub by_generation : ℕ
  pub breaking : turns.new.state ≡ Breaking by by_generation

-- a Swap turns a Breaking image into one of another breaker
pub record SeizesSlot (g : Geom) (sectors : List Sector) (step : Step) (a by by_generation : ℕ) : Type 0 where
  pub turns : TurnsSlot g sectors step a
  pub was_breaking : turns.old.state ≡ Breaking by by_generation
  pub next : ℕ
  pub next_generation : ℕ
  pub breaking : turns.new.state ≡ Breaking next next_generation

-- a Swap turns a Free image into a Live one of this generation
pub record EntersSlot (g : Geom) (sectors : List Sector) (step : Step) (a generation : ℕ) : Type 0 where
  pub turns : TurnsSlot g sectors step a
  pub was_free : turns.old.state ≡ Free
  pub live : turns.new.state ≡ Live
  pub same_generation : turns.new.generation ≡ generation

-- an answer that tells that a call was carried out
abbrev pub IsOk : Option HostAnswer → Type 0
IsOk (Some (Tree reply)) = ⊤
IsOk (Some (Registered slot generation)) = ⊤
IsOk (Some Plain) = ⊤
IsOk answer = ⊥

-- the step is a Swap, answered by Done, of the slot that the host holds, or of one that it enters
pub record IsOwnSwap (g : Geom) (sectors : List Sector) (d : Digest) (step : Step) : Type 0 where
  pub a : ℕ
  pub swap : TakesSlot g sectors step a
  pub done : swap.response ≡ Done
  pub own : ((own : Own) × (d.own ≡ Some own) × (own.slot ≡ a)) ⊎ (d.own ≡ None)

module _ (g : Geom) (start : List Sector) (turns : List Turn) where
  -- the sectors before turn n
  abbrev pub before : ℕ → List Sector
  before n = sectors_after start (take n turns)

  -- what the host of a turn had done and heard before turn n
  abbrev pub digest_before : ℕ → Turn → Digest
  digest_before n t = digest g t.event.host (take n turns)

  -- this generation of slot a was broken by one of the first n turns
  pub record IsBrokenBy (n a generation : ℕ) : Type 0 where
    pub m : ℕ
    pub turn : Turn
    pub earlier : m < n
    pub there : slice_get turns m ≡ Some turn
    pub breaks : BreaksSlot g (before m) turn.event.step a generation

  -- no slot falls back
  abbrev pub NoneFallsBack : Type 0
  NoneFallsBack = (m n a : ℕ) → a < g.slots → m ≤ n → n ≤ length turns → phase_at (before m) a ≤ phase_at (before n) a

  -- at every moment no two hosts hold the same generation, and what each holds stands or is past
  abbrev pub AllStand : Type 0
  AllStand = (n : ℕ) → n ≤ length turns
      → ((i : ℕ) → Stands g (before n) (digest g i (take n turns)))
      × ((i j : ℕ) → i ≢ j → Apart (digest g i (take n turns)) (digest g j (take n turns)))

  -- after a generation was broken no Swap of its slot that was sent under it takes effect
  abbrev pub NoSwapOnceBroken : Type 0
  NoSwapOnceBroken = (n a generation : ℕ) (t : Turn) → IsBrokenBy n a generation → slice_get turns n ≡ Some t
      → (x : TakesSlot g (before n) t.event.step a) → x.under ≡ Some (a, generation) → ⊥

  -- no generation of a slot is entered twice
  abbrev pub EnteredOnce : Type 0
  EnteredOnce = (m n a generation : ℕ) (t u : Turn) → m < n → slice_get turns m ≡ Some t → slice_get turns n ≡ Some u
      → EntersSlot g (before m) t.event.step a generation → EntersSlot g (before n) u.event.step a generation → ⊥

  -- each Swap that breaks a slot verifies an image that its host had judged stale
  abbrev pub BrokenStale : Type 0
  BrokenStale = (n a generation : ℕ) (t : Turn) → slice_get turns n ≡ Some t
      → (b : BreaksSlot g (before n) t.event.step a generation) → IsJudged (digest_before n t).notes a b.turns.swap.verify

  -- each seizure comes once the generation of the breaker before is over
  abbrev pub SeizedOver : Type 0
  SeizedOver = (n a by by_generation : ℕ) (t : Turn) → slice_get turns n ≡ Some t
      → SeizesSlot g (before n) t.event.step a by by_generation → IsOver (before n) by by_generation

  -- no plain write is sent under a generation that was broken
  abbrev pub NoWriteOnceBroken : Type 0
  NoWriteOnceBroken = (n a generation at : ℕ) (fresh : Sector) (response : Response) (landed took : Bool) (t : Turn)
      → IsBrokenBy n a generation → slice_get turns n ≡ Some t
      → t.event.step ≡ Sent (Some (a, generation)) (Write at fresh) response landed took → ⊥

  -- each Ok is answered where a Swap of the host's own slot takes effect and is answered by Done: of the slot that it holds, or of
  -- one that it enters
  abbrev pub OkAtOwnSwap : Type 0
  OkAtOwnSwap = (n : ℕ) (t : Turn) → slice_get turns n ≡ Some t → IsOk t.answer
      → IsOwnSwap g (before n) (digest_before n t) t.event.step

  -- no Ok is answered by a host that holds a generation that was broken, before the answer or with it
  abbrev pub NoOkOnceBroken : Type 0
  NoOkOnceBroken = (n a generation : ℕ) (t : Turn) → IsBrokenBy n a generation → slice_get turns n ≡ Some t → IsOk t.answer
      → (own_pair (digest_before n t).own ≡ Some (a, generation))
      ⊎ (own_pair (digest_before (n + 1) t).own ≡ Some (a, generation))
      → ⊥

  -- a generation that is held and whose slot is past it was broken
  abbrev pub PastIsBroken : Type 0
  PastIsBroken = (n i a generation : ℕ) → n ≤ length turns → own_pair (digest g i (take n turns)).own ≡ Some (a, generation)
      → IsPast (before n) a generation → IsBrokenBy n a generation

  -- a Swap of the own slot misses only where the generation held was broken
  abbrev pub MissedIsBroken : Type 0
  MissedIsBroken = (n a generation : ℕ) (t : Turn) (under : Option (ℕ × ℕ)) (verify fresh : Sector) (offset : ℕ) (landed took : Bool)
      → slice_get turns n ≡ Some t → t.event.step ≡ Sent under (Swap (2 + a) verify fresh) (Miscompare offset) landed took
      → under ≡ Some (a, generation) → IsBrokenBy n a generation

  -- a generation that is broken does nothing any more, and a slot is broken and entered only as it may be
  pub record IsFenced : Type 0 where
    pub none_falls_back : NoneFallsBack
    pub all_stand : AllStand
    pub no_swap : NoSwapOnceBroken
    pub entered_once : EnteredOnce
    pub broken_stale : BrokenStale
    pub seized_over : SeizedOver
    pub no_write : NoWriteOnceBroken
    pub ok_at_own_swap : OkAtOwnSwap
    pub no_ok : NoOkOnceBroken
    pub past_is_broken : PastIsBroken
    pub missed_is_broken : MissedIsBroken

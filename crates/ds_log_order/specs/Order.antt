-- The order of a replay: first the turns that step lines ask for; then the hosts in order make turns until they rest or have
-- ended, again from the first until all have ended.
use Rattle.std.specs.Prelude.{◌≡◌, ℕ, zero, suc, List, [], ◌∷◌, ◌++◌, length, slice_get, Option, Some, None}
use Rattle.ds_tree.specs.declared.scenarios.HostPlan.{HostPlan}
use Rattle.ds_tree.specs.declared.scenarios.Scenario.{Scenario}
use Rattle.ds_log_order.specs.Follows.{AllEnded}
use Rattle.ds_log_order.specs.HostFacts.{HostFacts}
use Rattle.ds_log_order.specs.LogProgress.{progresses}
use Rattle.ds_log_order.specs.Told.{Told}
use Rattle.ds_log_order.specs.Waiting.{IsStill}

module _ (facts : HostFacts) (plans : List HostPlan) where
  -- one turn of a host leads from one log to another: an event of the host, or nothing where it rests or has ended
  pub data IsTurn (host : ℕ) (past after : List Told) : Type 0 where
    Moves : (t : Told) → t.event.host ≡ host → after ≡ past ++ t ∷ [] → IsTurn host past after
    Stays : IsStill plans (progresses facts plans past) host → after ≡ past → IsTurn host past after

  -- so many turns of a host
  abbrev pub Turns : ℕ → ℕ → List Told → List Told → Type 0
  Turns host zero past after = after ≡ past
  Turns host (suc n) past after = (between : List Told) × Turns host n past between × IsTurn host between after

  -- the turns of one step line
  abbrev pub TurnsOf : Option (ℕ × ℕ) → List Told → List Told → Type 0
  TurnsOf None past after = ⊥
  TurnsOf (Some step) past after = Turns step.0 step.1 past after

  -- so many of the step lines, from the first
  abbrev pub StepLines : List (ℕ × ℕ) → ℕ → List Told → List Told → Type 0
  StepLines steps zero past after = after ≡ past
  StepLines steps (suc n) past after =
      (between : List Told) × StepLines steps n past between × TurnsOf (slice_get steps n) between after

  -- the turns of a host until it rests or has ended
  pub record RunsOn (host : ℕ) (past after : List Told) : Type 0 where
    pub count : ℕ
    pub turns : Turns host count past after
    pub still : IsStill plans (progresses facts plans after) host

  -- so many of the hosts, from the first, each until it rests or has ended
  abbrev pub Round : ℕ → List Told → List Told → Type 0
  Round zero past after = after ≡ past
  Round (suc host) past after = (between : List Told) × Round host past between × RunsOn host between after

  -- so many rounds of all hosts
  abbrev pub Rounds : ℕ → List Told → List Told → Type 0
  Rounds zero past after = after ≡ past
  Rounds (suc n) past after = (between : List Told) × Rounds n past between × Round (length plans) between after

-- the log of a replay
pub record InReplayOrder (facts : HostFacts) (s : Scenario) (log : List Told) : Type 0 where
  pub stepped : List Told
  pub steps : StepLines facts s.hosts s.steps (length s.steps) [] stepped
  pub rounds : ℕ
  pub drain : Rounds facts s.hosts rounds stepped log
  pub ended : AllEnded facts s log

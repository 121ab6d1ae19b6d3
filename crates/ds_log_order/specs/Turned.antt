-- What turns of hosts lead to: from one log to another.
use Rattle.std.specs.Prelude.{◌≡◌, ℕ, ◌<◌, Bool, true, false, List, [], ◌∷◌, ◌++◌}
use Rattle.ds_base.specs.declared.sectors.Sector.{Sector}
use Rattle.ds_tree.specs.declared.scenarios.Scenario.{Scenario}
use Rattle.ds_log.specs.declared.moves.Moved.{Moved}
use Rattle.ds_log.specs.declared.moves.Moved.TheVariants as moves
use Rattle.ds_log_order.specs.Follows.{AllEnded, IsFollowing, IsNext}
use Rattle.ds_log_order.specs.HostFacts.{HostFacts}
use Rattle.ds_log_order.specs.LogProgress.{progresses}
use Rattle.ds_log_order.specs.Order.{Round, Rounds, RunsOn, StepLines, Turns}
use Rattle.ds_log_order.specs.Told.{Told}
use Rattle.ds_log_order.specs.TurnsLeft.{turns_in}
use Rattle.ds_log_order.specs.Waiting.{HasEnded, IsResting, IsStill}

module _ (facts : HostFacts) (start : List Sector) (s : Scenario) where
  -- a turn of a host added its next event, or nothing where the host rests or has ended
  abbrev pub Turned : ℕ → Moved → List Told → List Told → Type 0
  Turned host moves.Event past after =
      (t : Told) × (t.event.host ≡ host) × IsNext facts start s past t × (after ≡ past ++ t ∷ [])
  Turned host moves.Resting past after = IsResting s.hosts (progresses facts s.hosts past) host × (after ≡ past)
  Turned host moves.Ended past after = HasEnded s.hosts (progresses facts s.hosts past) host × (after ≡ past)

  -- turns keep that a log follows the scenario, and where any added an event fewer are left
  pub record GoesOn (any : Bool) (before after : List Told) : Type 0 where
    pub follows : IsFollowing facts start s before → IsFollowing facts start s after
    pub same : any ≡ false → after ≡ before
    pub fewer : any ≡ true → turns_in facts s after < turns_in facts s before

  -- so many turns of a host
  pub record HasTurned (host count : ℕ) (before after : List Told) : Type 0 where
    pub turns : Turns facts s.hosts host count before after
    pub follows : IsFollowing facts start s before → IsFollowing facts start s after

  -- so many of the step lines
  pub record HasStepped (steps : List (ℕ × ℕ)) (count : ℕ) (before after : List Told) : Type 0 where
    pub lines : StepLines facts s.hosts steps count before after
    pub follows : IsFollowing facts start s before → IsFollowing facts start s after

  -- a host has made turns until it rests or has ended
  pub record HasRun (host : ℕ) (any : Bool) (before after : List Told) : Type 0 where
    pub runs : RunsOn facts s.hosts host before after
    pub goes : GoesOn any before after

  -- so many hosts have, one after another
  pub record HasGone (hosts : ℕ) (any : Bool) (before after : List Told) : Type 0 where
    pub round : Round facts s.hosts hosts before after
    pub goes : GoesOn any before after
    pub still : any ≡ false → (host : ℕ) → host < hosts → IsStill s.hosts (progresses facts s.hosts after) host

  -- so many rounds
  pub record HasGoneRound (rounds : ℕ) (before after : List Told) : Type 0 where
    pub drain : Rounds facts s.hosts rounds before after
    pub follows : IsFollowing facts start s before → IsFollowing facts start s after

  -- rounds until all have ended
  pub record HasDrained (before after : List Told) : Type 0 where
    pub rounds : ℕ
    pub drain : Rounds facts s.hosts rounds before after
    pub ended : AllEnded facts s after
    pub follows : IsFollowing facts start s before → IsFollowing facts start s after

-- What holds of a scenario that is carried out, at each moment.
use Rattle.std.specs.Prelude.{◌≡◌, ℕ, ◌^◌, ◌<◌, List, [], ◌∷◌, ◌++◌, length}
use Rattle.ds_base.specs.declared.sectors.Sector.{Sector}
use Rattle.ds_tree.specs.PlainPass.{list_at}
use Rattle.ds_tree.specs.declared.scenarios.Scenario.{Scenario}
use Rattle.ds_log.specs.declared.logs.Event.{Event}
use Rattle.ds_log.specs.declared.logs.Reply.{Reply}
use Rattle.ds_log_order.specs.Follows.{Follows, IsNext}
use Rattle.ds_log_order.specs.HostFacts.{HostFacts}
use Rattle.ds_log_order.specs.KeepsUp.{KeepsUp}
use Rattle.ds_log_order.specs.Told.{Told, told}
use Rattle.ds_log_order.specs.declared.progress.Progress.{Progress}

module _ {H : Type 0} (facts : HostFacts) (start : List Sector) (agrees : H → List Told → Type 0) (s : Scenario) where
  -- what is kept holds of the log, which follows the scenario, and the hosts and their device are as its events left them
  pub record Holds (kept : List Progress) (tick : ℕ) (hosts : H) (events : List Event) (replies : List Reply) : Type 0 where
    pub keeps : KeepsUp facts s kept tick (told events replies)
    pub follows : Follows facts start s events replies
    pub agree : agrees hosts (told events replies)
    pub short : (host : ℕ) → length (list_at s.hosts host) < 2 ^ 32

  -- the same, after the next event of a host
  pub record HasGoneOn (host : ℕ) (past : List Told) (kept : List Progress) (tick : ℕ) (hosts : H) (events : List Event)
      (replies : List Reply) : Type 0 where
    pub holds : Holds kept tick hosts events replies
    pub event : Told
    pub of_host : event.event.host ≡ host
    pub next : IsNext facts start s past event
    pub grows : told events replies ≡ past ++ event ∷ []

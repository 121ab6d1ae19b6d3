-- What is kept of how far the hosts of a scenario have come.
use Rattle.std.specs.Prelude.{◌≡◌, ℕ, ◌+◌, ◌*◌, ◌^◌, ◌<◌, ◌≤◌, List, length}
use Rattle.ds_tree.specs.declared.scenarios.Scenario.{Scenario}
use Rattle.ds_log_order.specs.Follows.{clock}
use Rattle.ds_log_order.specs.HostFacts.{HostFacts}
use Rattle.ds_log_order.specs.LogProgress.{progress}
use Rattle.ds_log_order.specs.Told.{Told}
use Rattle.ds_log_order.specs.TurnsLeft.{turns_in}
use Rattle.ds_log_order.specs.Waiting.{progress_in}
use Rattle.ds_log_order.specs.declared.progress.Progress.{Progress}

-- the progress that is kept of each host is that which the log tells, and the tick is the clock, which has room for the ticks of
-- all turns to come
pub record KeepsUp (facts : HostFacts) (s : Scenario) (kept : List Progress) (tick : ℕ) (log : List Told) : Type 0 where
  pub count : length kept ≡ length s.hosts
  pub each : (host : ℕ) → progress_in kept host ≡ progress facts s.hosts host log
  pub few : (host : ℕ) → (progress_in kept host).sent ≤ 4096
  pub ticked : tick ≡ clock s log
  pub room : tick + 2 ^ 32 * turns_in facts s log < 2 ^ 64

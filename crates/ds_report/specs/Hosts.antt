-- The names of hosts.
use Rattle.std.specs.Prelude.{ℕ, List, [], slice_get, Option, Some, None}
use Rattle.ds_tree.specs.declared.scenarios.HostPlan.{HostPlan}
use Rattle.ds_tree.specs.declared.scenarios.Scenario.{Scenario}

-- the name of the host with this number
abbrev pub host_name : Scenario → ℕ → List ℕ
host_name s host = named (slice_get s.hosts host) where
  named : Option HostPlan → List ℕ
  named None = []
  named (Some plan) = plan.name

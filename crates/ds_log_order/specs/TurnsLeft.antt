-- How many turns that are events are left at most.
use Rattle.std.specs.Prelude.{ℕ, zero, suc, ◌+◌, ◌-◌, ◌*◌, List, length}
use Rattle.ds_tree.specs.PlainPass.{list_at}
use Rattle.ds_tree.specs.declared.scenarios.Directive.{Directive}
use Rattle.ds_tree.specs.declared.scenarios.HostPlan.{HostPlan}
use Rattle.ds_tree.specs.declared.scenarios.Scenario.{Scenario}
use Rattle.ds_log_order.specs.HostFacts.{HostFacts}
use Rattle.ds_log_order.specs.LogProgress.{progresses}
use Rattle.ds_log_order.specs.Told.{Told}
use Rattle.ds_log_order.specs.declared.progress.Progress.{Progress}

-- how many turns a host has at most: for each directive that is left one for each command that may be sent, and one more
abbrev pub turns_left : List Directive → Progress → ℕ
turns_left list p = 4098 * (length list - p.finished) + (4097 - p.sent)

-- a sum over so many hosts
abbrev pub total : ℕ → (ℕ → ℕ) → ℕ
total zero f = 0
total (suc n) f = f n + total n f

-- how many turns that aren't nothing there are at most
abbrev pub most_turns : List HostPlan → (ℕ → Progress) → ℕ
most_turns plans at = total (length plans) (λ host. turns_left (list_at plans host) (at host))

-- how many events there are at most after this log
abbrev pub turns_in : HostFacts → Scenario → List Told → ℕ
turns_in facts s log = most_turns s.hosts (progresses facts s.hosts log)

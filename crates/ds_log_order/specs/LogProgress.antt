-- How far each host has come, as a fold of the log.
use Rattle.std.specs.Prelude.{ℕ, ◌==◌, List, [], ◌∷◌, ◌++◌, slice_get, if◌then◌else◌}
use Rattle.ds_tree.specs.PlainPass.{list_at}
use Rattle.ds_tree.specs.declared.scenarios.HostPlan.{HostPlan}
use Rattle.ds_log_order.specs.HostFacts.{HostFacts, mark_of}
use Rattle.ds_log_order.specs.Progress.{advance, at_start}
use Rattle.ds_log_order.specs.Told.{Told}
use Rattle.ds_log_order.specs.declared.progress.Progress.{Progress}

module _ (facts : HostFacts) (plans : List HostPlan) where
  -- a host after an event of its own
  abbrev pub moved_own : ℕ → List Told → Progress → Told → Progress
  moved_own host past p t = advance (list_at plans host) (slice_get (list_at plans host) p.finished) p (mark_of facts past p t)

  -- a host after one event more
  abbrev pub moved : ℕ → List Told → Progress → Told → Progress
  moved host past p t = if t.event.host == host then moved_own host past p t else p

  -- how far a host has come that had come so far after the past
  abbrev pub progress_from : ℕ → List Told → Progress → List Told → Progress
  progress_from host past p [] = p
  progress_from host past p (t ∷ log) = progress_from host (past ++ t ∷ []) (moved host past p t) log

  -- how far a host has come after these events
  abbrev pub progress : ℕ → List Told → Progress
  progress host log = progress_from host [] at_start log

  -- how far each host has come after these events
  abbrev pub progresses : List Told → ℕ → Progress
  progresses log host = progress host log

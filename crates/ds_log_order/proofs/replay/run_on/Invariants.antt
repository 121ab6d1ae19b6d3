use Rattle.std.proofs.Common.{◌≡◌}
use Rattle.ds_log_order.specs.TurnsLeft.{turns_in}
use Rattle.ds_log_order.proofs.Turns.{HasMoved}
use Rattle.ds_log_order.proofs.replay.run_on.Given as goal

abbrev pub invariant-loop-any : goal.invariant-loop-any
invariant-loop-any g l = record {
  scenario : g.W.Replayed.scenario l.world ≡ l.scenario;
  moved : HasMoved g.W.Replayed.facts g.W.Replayed.start l.scenario l.host l.any (g.W.Replayed.log l.fn.world) (g.W.Replayed.log l.world);
}

abbrev pub decreases-loop-any : goal.decreases-loop-any
decreases-loop-any g l = turns_in g.W.Replayed.facts l.scenario (g.W.Replayed.log l.world)

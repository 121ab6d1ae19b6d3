use Rattle.std.proofs.Common.{◌≡◌}
use Rattle.ds_log_order.specs.TurnsLeft.{turns_in}
use Rattle.ds_log_order.proofs.Turns.{HasGoneRounds}
use Rattle.ds_log_order.proofs.replay.drain.Given as goal

abbrev pub invariant-loop : goal.invariant-loop
invariant-loop g l = record {
  scenario : g.W.Replayed.scenario l.world ≡ l.scenario;
  rounds : HasGoneRounds g.W.Replayed.facts g.W.Replayed.start l.scenario (g.W.Replayed.log l.fn.world) (g.W.Replayed.log l.world);
}

abbrev pub decreases-loop : goal.decreases-loop
decreases-loop g l = turns_in g.W.Replayed.facts l.scenario (g.W.Replayed.log l.world)

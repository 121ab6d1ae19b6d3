use Rattle.std.proofs.Common.{◌≡◌}
use Rattle.ds_log_order.specs.Turned.{HasTurned}
use Rattle.ds_log_order.proofs.replay.turns.Given as goal

abbrev pub invariant-loop-i : goal.invariant-loop-i
invariant-loop-i g l = record {
  scenario : g.W.Replayed.scenario l.world ≡ l.scenario;
  turned : HasTurned g.W.Replayed.facts g.W.Replayed.start l.scenario l.host l._i (g.W.Replayed.log l.fn.world) (g.W.Replayed.log l.world);
}

use Rattle.std.proofs.Common.{◌≡◌}
use Rattle.ds_log_order.specs.Turned.{HasGone}
use Rattle.ds_log_order.proofs.replay.round.Given as goal

abbrev pub invariant-loop-host : goal.invariant-loop-host
invariant-loop-host g l = record {
  scenario : g.W.Replayed.scenario l.world ≡ l.scenario;
  gone : HasGone g.W.Replayed.facts g.W.Replayed.start l.scenario l.host l.any (g.W.Replayed.log l.fn.world) (g.W.Replayed.log l.world);
}

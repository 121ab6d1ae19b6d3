use Rattle.std.proofs.Common.{◌≡◌}
use Rattle.ds_log_order.specs.Turned.{HasStepped}
use Rattle.ds_log_order.proofs.replay.step_lines.Given as goal

abbrev pub invariant-loop-step : goal.invariant-loop-step
invariant-loop-step g l = record {
  scenario : g.W.Replayed.scenario l.world ≡ l.scenario;
  stepped : HasStepped g.W.Replayed.facts g.W.Replayed.start l.scenario l.scenario.steps l.step-index (g.W.Replayed.log l.fn.world)
      (g.W.Replayed.log l.world);
}

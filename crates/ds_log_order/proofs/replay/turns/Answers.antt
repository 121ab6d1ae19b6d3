use Rattle.ds_log_order.proofs.Turns.{turned_more, turned_none}
use Rattle.ds_log_order.proofs.replay.turns.Goals as goal

pub loop-i-init : goal.loop-i-init
loop-i-init g c = record {
  scenario = c.requires.scenario;
  turned = turned_none g.W.Replayed.facts g.W.Replayed.start c.args.scenario.now c.args.host (g.W.Replayed.log c.args.world.now);
}

pub loop-i-preserved : goal.loop-i-preserved
loop-i-preserved g c = record {
  scenario = c.in_ok-turn.ensures.scenario;
  turned = turned_more g.W.Replayed.facts g.W.Replayed.start c.args.scenario.now c.args.host c.loop-i._i c.in_ok-turn.field-0
      (g.W.Replayed.log c.args.world.now) (g.W.Replayed.log c.loop-i.world) (g.W.Replayed.log c.turn.new.world)
      c.loop-i.invariant.turned c.in_ok-turn.ensures.turned;
}

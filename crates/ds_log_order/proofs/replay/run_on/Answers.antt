use Rattle.ds_log_order.proofs.Turns.{moved_falls, moved_more}
use Rattle.ds_log_order.proofs.replay.run_on.Goals as goal

pub loop-any-smaller : goal.loop-any-smaller
loop-any-smaller g c =
    moved_falls g.W.Replayed.facts g.W.Replayed.start c.args.scenario.now c.args.host (g.W.Replayed.log c.loop-any.world)
    (g.W.Replayed.log c.turn.new.world)
    (rw c.in-Event.is at c.in_ok-turn.ensures.turned)

pub loop-any-preserved : goal.loop-any-preserved
loop-any-preserved g c = record {
  scenario = c.in_ok-turn.ensures.scenario;
  moved = moved_more g.W.Replayed.facts g.W.Replayed.start c.args.scenario.now c.args.host c.loop-any.any
      (g.W.Replayed.log c.args.world.now) (g.W.Replayed.log c.loop-any.world) (g.W.Replayed.log c.turn.new.world)
      c.loop-any.invariant.moved (rw c.in-Event.is at c.in_ok-turn.ensures.turned);
}

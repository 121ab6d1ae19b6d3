use Rattle.ds_log_order.proofs.Turns.{rounds_end, rounds_more}
use Rattle.ds_log_order.proofs.replay.drain.Goals as goal

pub loop-preserved : goal.loop-preserved
loop-preserved g c = record {
  scenario = c.in_ok-round.ensures.scenario;
  rounds = rounds_more g.W.Replayed.facts g.W.Replayed.start c.args.scenario.now c.in_ok-round.field-0
      (g.W.Replayed.log c.args.world.now) (g.W.Replayed.log c.loop.world) (g.W.Replayed.log c.round.new.world)
      c.loop.invariant.rounds (rw c.requires.hosts at c.in_ok-round.ensures.gone);
}

pub returns-then-not-branch-clause-drained : goal.returns-then-not-branch-clause-drained
returns-then-not-branch-clause-drained g c =
    rounds_end g.W.Replayed.facts g.W.Replayed.start c.args.scenario.now c.requires.passes
    (g.W.Replayed.log c.args.world.now) (g.W.Replayed.log c.loop.world) (g.W.Replayed.log c.round.new.world)
    c.loop.invariant.rounds (rw (c.requires.hosts, c.if-not-branch.true) at c.in_ok-round.ensures.gone)

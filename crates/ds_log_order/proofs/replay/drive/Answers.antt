use Rattle.std.proofs.lemmas.Result.{on_ok_weaker}
use Rattle.ds_log_order.proofs.Turns.{replay-follows, replay-order}
use Rattle.ds_log_order.proofs.replay.drive.Goals as goal

pub returns-clause-follows : goal.returns-clause-follows
returns-clause-follows g c =
    on_ok_weaker c.drain.result (λ d. replay-follows g.W.Replayed.facts g.W.Replayed.start c.args.scenario.now
    (g.W.Replayed.log c.args.world.now) (g.W.Replayed.log c.step_lines.new.world) (g.W.Replayed.log c.drain.new.world)
    c.requires.fresh c.in_ok-step_lines.ensures.stepped d) c.drain.ensures.drained

pub returns-clause-order : goal.returns-clause-order
returns-clause-order g c =
    on_ok_weaker c.drain.result (λ d. replay-order g.W.Replayed.facts g.W.Replayed.start c.args.scenario.now
    (g.W.Replayed.log c.args.world.now) (g.W.Replayed.log c.step_lines.new.world) (g.W.Replayed.log c.drain.new.world)
    c.requires.fresh c.in_ok-step_lines.ensures.stepped d) c.drain.ensures.drained

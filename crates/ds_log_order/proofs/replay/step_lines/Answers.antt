use Rattle.std.proofs.Common.{◌≡◌, ℕ, List, Some, get_or, arith, ap, sym, ◌∙◌}
use Rattle.std.proofs.lemmas.Option.{slice_get-get_or}
use Rattle.std.specs.Prelude.{slice_get}
use Rattle.ds_log_order.proofs.Turns.{stepped_more}
use Rattle.ds_log_order.proofs.replay.step_lines.Goals as goal

pub loop-step-preserved : goal.loop-step-preserved
loop-step-preserved g c =
    let items = c.as_slice-step-items.result.now in
    let here : slice_get c.args.scenario.now.steps c.loop-step.step-index ≡ Some (get_or items c.loop-step.step-index (0, 0)) =
    ap (λ (l : List (ℕ × ℕ)). slice_get l c.loop-step.step-index) (sym c.as_slice-step-items.ensures)
    ∙ slice_get-get_or items c.loop-step.step-index (0, 0) (omega arith) in
    record {
      scenario = c.in_ok-turns.ensures.scenario;
      stepped = stepped_more g.W.Replayed.facts g.W.Replayed.start c.args.scenario.now c.args.scenario.now.steps c.loop-step.step-index
          (get_or items c.loop-step.step-index (0, 0))
          (g.W.Replayed.log c.args.world.now) (g.W.Replayed.log c.loop-step.world) (g.W.Replayed.log c.turns.new.world)
          here c.loop-step.invariant.stepped c.in_ok-turns.ensures.turned;
    }

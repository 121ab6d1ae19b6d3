use Rattle.std.proofs.Common.{◌≡◌, sym, subst, ◌∙◌}
use Rattle.ds_base.specs.Geometry.{IsGeom}
use Rattle.ds_tree.specs.Nodes.{FileTree}
use Rattle.ds_log.specs.LogValues.{LogValue}
use Rattle.ds_log.specs.Store.{store}
use Rattle.ds_world.specs.FirstRules.{first_rules}
use Rattle.ds_world.proofs.FirstStart.{first_geom-is}
use Rattle.ds_top.proofs.PromiseLaws.{replayed}
use Rattle.ds_top.proofs.replaying.replay_scenario.Goals as goal

pub text-requires : goal.text-requires
text-requires c = subst IsGeom (sym c.requires.geom) first_geom-is

pub returns : goal.returns
returns c =
    let w = c.run_to_end.new.world in
    let log = c.log.result.now in
    let same : w.scenario ≡ c.args.scenario.now = c.run_to_end.ensures.scenario ∙ c.in_ok-world.ensures.scenario in
    let is : log ≡ w.log = c.log.ensures.value in
    let Q : LogValue → Type 0 = λ l. (u : FileTree) → first_rules.StandsFor (store first_rules.start l.events) u → u ≡ c.in_ok-tree.tree.tree in
    replayed c.args.scenario.now w.scenario log c.into_log-log.result c.in_ok-tree.tree.tree c.in_ok-text.text.items c.requires same
    (c.into_log-log.ensures ∙ sym is) c.log.ensures.law c.log.ensures.follows (c.log.ensures.end c.in_ok-run_to_end.ensures.end) c.log.ensures.order c.log.ensures.counted
    (subst Q (sym is) c.in_ok-tree.ensures.only) c.in_ok-text.ensures.report

use Rattle.std.proofs.Common.{◌≤◌, length, ap, subst}
use Rattle.ds_tree.specs.declared.scenarios.Scenario.{Scenario}
use Rattle.ds_tree.specs.FirstForm.{first_geom}
use Rattle.ds_log.specs.Headline.{Headline}
use Rattle.ds_log.specs.Scripts.{list_of, calls_of}
use Rattle.ds_log.specs.Follows.{IsAtEnd, InReplayOrder}
use Rattle.ds_world.specs.FirstRules.{first_rules}
use Rattle.ds_world.specs.FirstWorlds.{FirstWorldValue}
use Rattle.ds_world.proofs.FirstStart.{headline_of, is_in_order, is_at_end, changes_counted}
use Rattle.ds_world.proofs.first_world.FirstWorld.log.Goals as goal

pub returns-clause-law : goal.returns-clause-law
returns-clause-law c =
    let log = c.self.inside.log in
    let P : Scenario → Type 0 = λ s. Headline first_rules first_geom (calls_of s log.replies) log.events log.replies in
    subst P (ap (λ (w : FirstWorldValue). w.scenario) c.self.view_is) (headline_of _ c.self.invariant)

pub returns-clause-order : goal.returns-clause-order
returns-clause-order c =
    let log = c.self.inside.log in
    let P : Scenario → Type 0 = λ s. InReplayOrder (length s.hosts) s.steps log.events in
    subst P (ap (λ (w : FirstWorldValue). w.scenario) c.self.view_is) (is_in_order _ c.self.invariant)

pub returns-clause-end : goal.returns-clause-end
returns-clause-end c =
    let log = c.self.inside.log in
    let P : FirstWorldValue → Type 0 = λ w. length (list_of w.scenario 0) ≤ w.position → IsAtEnd w.scenario log.events log.replies in
    subst P c.self.view_is (is_at_end _ c.self.invariant)

pub returns-clause-counted : goal.returns-clause-counted
returns-clause-counted c = changes_counted _ c.self.invariant

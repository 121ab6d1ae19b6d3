use Rattle.std.proofs.Common.{◌≡◌, ◌<◌, List, length, get_or, ap}
use Rattle.ds_tree.specs.declared.scenarios.HostPlan.{HostPlan}
use Rattle.ds_tree.specs.declared.scenarios.Scenario.{Scenario}
use Rattle.ds_script.proofs.Edits.{with_directive_set}
use Rattle.ds_script.proofs.drafts.Draft.add_directive.Goals as goal

pub returns : goal.returns
returns c =
    let plans : List HostPlan = c.self.inside.hosts.items in
    let plan : HostPlan = c.index_mut.result.now in
    let there : plan ≡ get_or plans c.args.host plan = rw c.from.ensures at c.index_mut.ensures.value in
    let within : c.args.host < length plans = rw (← c.self.view_is) at c.requires.within in
    let set = with_directive_set plans c.args.host c.args.directive plan within there in
    let with_hosts = λ (hosts : List HostPlan). let s : Scenario = record { volume = c.self.inside.volume; geom = c.self.inside.geom; hosts = hosts; steps = c.self.inside.steps } in s in
    rw (← c.self.view_is, c.from.ensures, c.in_ok-push.ensures.ok) (ap with_hosts set)

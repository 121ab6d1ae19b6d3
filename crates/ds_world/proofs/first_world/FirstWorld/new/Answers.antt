use Rattle.std.proofs.Common.{refl, sym, ◌∙◌}
use Rattle.ds_world.proofs.FirstSteps.{FirstHolds-as}
use Rattle.ds_world.proofs.FirstStart.{first_holds, first_value}
use Rattle.ds_world.proofs.first_world.FirstWorld.new.Goals as goal

pub invariant_of-result : goal.invariant_of-result
invariant_of-result c =
    FirstHolds-as (first_value c.args.scenario.now) _ (sym c.in_ok-scenario.ensures) refl (sym c.new.ensures) (sym (c.in_ok-device.ensures ∙ c.in_ok-sectors.ensures)) refl
    (sym c.new-2.ensures.events) (sym c.new-2.ensures.replies) (first_holds c.args.scenario.now c.requires)

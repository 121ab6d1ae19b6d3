use Rattle.std.proofs.Common.{length, ap, sym, ◌∙◌, arith}
use Rattle.ds_world.proofs.FirstForms.{tells_none, one_short, list_not_built, one_built, second_not_built, other_not_built, none_built}
use Rattle.ds_world.proofs.first_forms.first_break.Goals as goal

pub returns-then-not-is_first_geom : goal.returns-then-not-is_first_geom
returns-then-not-is_first_geom c = other_not_built c.args.scenario.now (λ is. cc (c.is_first_geom.ensures.1 is, c.if-not-is_first_geom.true))

pub returns-in_err-plan : goal.returns-in_err-plan
returns-in_err-plan c =
    let none = sym (ap length c.as_slice.ensures) ∙ c.in_err-plan.ensures.cases in
    tells_none c.args.scenario.now c.from_residual.result c.from_residual.ensures
    (none_built c.args.scenario.now c.requires (c.is_first_geom.ensures.0 c.if-not-is_first_geom.false) none)

pub returns-then-not-is_empty : goal.returns-then-not-is_empty
returns-then-not-is_empty c =
    let hosts = sym c.as_slice.ensures ∙ c.in_ok-plan.ensures.cases.0 in
    second_not_built c.args.scenario.now c.in_ok-plan.plan.now c.in_ok-plan.others.now (c.is_first_geom.ensures.0 c.if-not-is_first_geom.false) hosts c.if-not-is_empty.ensures

pub list_break-requires : goal.list_break-requires
list_break-requires c =
    let hosts = sym c.as_slice.ensures ∙ c.in_ok-plan.ensures.cases.0 in
    omega (arith, ap length c.as_slice-2.ensures, one_short c.args.scenario.now c.in_ok-plan.plan.now c.in_ok-plan.others.now c.requires hosts)

pub returns-in_err-directive : goal.returns-in_err-directive
returns-in_err-directive c =
    let hosts = sym c.as_slice.ensures ∙ c.in_ok-plan.ensures.cases.0 in
    tells_none c.args.scenario.now c.from_residual-in_err-directive.result c.from_residual-in_err-directive.ensures
    (one_built c.args.scenario.now c.in_ok-plan.plan.now c.in_ok-plan.others.now c.as_slice-2.result.now c.requires
    (c.is_first_geom.ensures.0 c.if-not-is_first_geom.false) hosts c.if-not-is_empty.ensures c.as_slice-2.ensures c.in_err-directive.ensures)

pub returns : goal.returns
returns c =
    let hosts = sym c.as_slice.ensures ∙ c.in_ok-plan.ensures.cases.0 in
    list_not_built c.args.scenario.now c.in_ok-plan.plan.now c.in_ok-plan.others.now c.as_slice-2.result.now c.in_ok-directive.directive
    (c.is_first_geom.ensures.0 c.if-not-is_first_geom.false) hosts c.if-not-is_empty.ensures c.as_slice-2.ensures c.in_ok-directive.ensures

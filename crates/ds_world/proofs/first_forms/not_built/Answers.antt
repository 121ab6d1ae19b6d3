use Rattle.ds_world.proofs.FirstForms.{told_only, told_none}
use Rattle.ds_world.proofs.first_forms.not_built.Goals as goal

pub returns-clause-only : goal.returns-clause-only
returns-clause-only c = told_only c.args.scenario.now c.first_break.result c.first_break.ensures

pub returns-clause-none : goal.returns-clause-none
returns-clause-none c = told_none c.args.scenario.now c.first_break.result c.first_break.ensures

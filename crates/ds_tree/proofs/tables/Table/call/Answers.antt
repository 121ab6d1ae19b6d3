use Rattle.std.proofs.Common.{sym, subst, ◌∙◌}
use Rattle.ds_base.specs.declared.geometry.Geom.{Geom}
use Rattle.ds_tree.specs.WellFormed.{IsTree}
use Rattle.ds_tree.proofs.StepKeeps.{outcome-keeps}
use Rattle.ds_tree.proofs.tables.Table.call.Goals as goal

pub returns-in-None-clause-keeps : goal.returns-in-None-clause-keeps
returns-in-None-clause-keeps c =
    subst (λ (g : Geom). IsTree g c.carry_out.new.self.tree) (sym c.carry_out.ensures.geom)
    (outcome-keeps c.args.self.now.geom c.args.self.now.tree c.requires.tree c.args.call.now c.carry_out.new.self.tree c.carry_out.result
    c.requires.names (sym c.refusal.ensures ∙ c.in-None.is) c.carry_out.ensures.succeeds c.carry_out.ensures.err)

-- The body can be spelled.
use Rattle.ds_plan_base.proofs.NewBodies.{grown-is_body}
use Rattle.ds_plan_base.proofs.pairs.body_grown.Goals as goal

pub returns-clause-is_body : goal.returns-clause-is_body
returns-clause-is_body c = grown-is_body c.args.dir.now c.args.number c.requires c.ranges.number.fits

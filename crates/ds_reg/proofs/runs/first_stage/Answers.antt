use Rattle.ds_reg.proofs.Going.{begun-by, begun-fits}
use Rattle.ds_reg.proofs.Remaining.{first-few}
use Rattle.ds_reg.proofs.runs.first_stage.Goals as goal

pub returns-in-Enter-clause-fits : goal.returns-in-Enter-clause-fits
returns-in-Enter-clause-fits c = begun-fits c.args.geom.now c.args.what.now c.requires c.in-Enter.is

pub returns-in-Enter-clause-begun : goal.returns-in-Enter-clause-begun
returns-in-Enter-clause-begun c = begun-by c.args.geom.now c.args.what.now c.requires c.in-Enter.is

pub returns-in-Enter-clause-few : goal.returns-in-Enter-clause-few
returns-in-Enter-clause-few c = first-few c.args.geom.now c.requires

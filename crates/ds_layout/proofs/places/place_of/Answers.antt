use Rattle.ds_layout.proofs.SamePlace.{only_place}
use Rattle.ds_layout.proofs.places.place_of.Goals as goal

pub returns-clause-only : goal.returns-clause-only
returns-clause-only c = only_place c.args.geom.now c.args.at c.place_found.result c.requires c.place_found.ensures

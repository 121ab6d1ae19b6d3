use Rattle.ds_base.specs.declared.geometry.Kind.TheVariants.{Fd, Sb, Pb, Fb}
use Rattle.ds_bitmap.proofs.Bounds.{most_per_cluster}
use Rattle.ds_bitmap.proofs.bits.items_of_each.Goals as goal

pub returns-in-Fd-clause-most : goal.returns-in-Fd-clause-most
returns-in-Fd-clause-most c = most_per_cluster c.args.geom.now Fd c.requires

pub returns-in-Sb-clause-most : goal.returns-in-Sb-clause-most
returns-in-Sb-clause-most c = most_per_cluster c.args.geom.now Sb c.requires

pub returns-in-Pb-clause-most : goal.returns-in-Pb-clause-most
returns-in-Pb-clause-most c = most_per_cluster c.args.geom.now Pb c.requires

pub returns-in-Fb-clause-most : goal.returns-in-Fb-clause-most
returns-in-Fb-clause-most c = most_per_cluster c.args.geom.now Fb c.requires

-- A cluster of the volume has some items, and not too many.
use Rattle.std.proofs.Common.{arith}
use Rattle.ds_base.specs.declared.geometry.GeomField.TheVariants.{Items}
use Rattle.ds_base.specs.declared.geometry.Kind.TheVariants.{Fd, Sb, Pb, Fb}
use Rattle.ds_bitmap.proofs.Bounds.{most_per_cluster}
use Rattle.ds_plan_base.proofs.giving.per_cluster.Goals as goal

pub returns-in-Fd-clause-some : goal.returns-in-Fd-clause-some
returns-in-Fd-clause-some c = omega (arith, (c.requires (Items Fd)).0)

pub returns-in-Fd-clause-most : goal.returns-in-Fd-clause-most
returns-in-Fd-clause-most c = omega (arith, most_per_cluster c.args.geom.now Fd c.requires)

pub returns-in-Sb-clause-some : goal.returns-in-Sb-clause-some
returns-in-Sb-clause-some c = omega (arith, (c.requires (Items Sb)).0)

pub returns-in-Sb-clause-most : goal.returns-in-Sb-clause-most
returns-in-Sb-clause-most c = omega (arith, most_per_cluster c.args.geom.now Sb c.requires)

pub returns-in-Pb-clause-some : goal.returns-in-Pb-clause-some
returns-in-Pb-clause-some c = omega (arith, (c.requires (Items Pb)).0)

pub returns-in-Pb-clause-most : goal.returns-in-Pb-clause-most
returns-in-Pb-clause-most c = omega (arith, most_per_cluster c.args.geom.now Pb c.requires)

pub returns-in-Fb-clause-some : goal.returns-in-Fb-clause-some
returns-in-Fb-clause-some c = omega (arith, (c.requires (Items Fb)).0)

pub returns-in-Fb-clause-most : goal.returns-in-Fb-clause-most
returns-in-Fb-clause-most c = omega (arith, most_per_cluster c.args.geom.now Fb c.requires)

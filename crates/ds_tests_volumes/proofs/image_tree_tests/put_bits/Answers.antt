-- Each kind of a geometry has a cluster.
use Rattle.std.proofs.Common.{arith, rules}
use Rattle.ds_base.specs.Geometry.{IsGeom}
use Rattle.ds_base.specs.declared.geometry.GeomField.TheVariants.{Clusters}
use Rattle.ds_tests_volumes.proofs.image_tree_tests.put_bits.Goals as goal

pub new-bits-requires-clause-cluster : goal.new-bits-requires-clause-cluster
new-bits-requires-clause-cluster c =
    let is : IsGeom c.args.geom.now = search rules in
    omega (arith, (is (Clusters c.args.kind)).0)

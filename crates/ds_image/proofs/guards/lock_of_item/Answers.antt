-- The cluster of an item is one of at most 8.
use Rattle.std.proofs.Common.{◌≡◌, ◌<◌, ◌≤◌, ◌/◌, ◌∙◌, arith}
use Rattle.std.proofs.Math.Nat.{div-lt_iff_lt-mul}
use Rattle.ds_base.specs.Geometry.{clusters_of, per_cluster}
use Rattle.ds_base.specs.declared.geometry.GeomField.TheVariants.{Clusters, Items}
use Rattle.ds_image.proofs.guards.lock_of_item.Goals as goal

pub overflow_cast-cluster : goal.overflow_cast-cluster
overflow_cast-cluster c =
    let g = c.args.geom.now in
    let kind = c.args.kind in
    let some : 0 < per_cluster g kind = (c.requires.geom (Items kind)).0 in
    let below : c.args.n / per_cluster g kind < clusters_of g kind =
    (div-lt_iff_lt-mul {k = per_cluster g kind} {x = c.args.n} {y = clusters_of g kind} some).1 c.requires.inside in
    let few : clusters_of g kind ≤ 8 = (c.requires.geom (Clusters kind)).1 in
    let is : c.from.result ≡ per_cluster g kind = c.from.ensures ∙ c.items_per_cluster.ensures in
    rw is (omega (arith, below, few))

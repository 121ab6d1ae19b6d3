-- The rest is below the number of clusters.
use Rattle.std.proofs.Common.{◌≡◌, ◌+◌, ◌%◌, ◌<◌, ◌∙◌, arith}
use Rattle.ds_base.specs.Geometry.{clusters_of}
use Rattle.ds_base.specs.declared.geometry.GeomField.TheVariants.{Clusters}
use Rattle.ds_plan_base.proofs.Bitmaps.{tried-within}
use Rattle.ds_plan_base.proofs.items.cluster_tried.Goals as goal

pub nonzero_rem-result : goal.nonzero_rem-result
nonzero_rem-result c = omega (arith, c.from-3.ensures, c.clusters.ensures, (c.requires (Clusters c.args.kind)).0)

pub overflow_cast-result : goal.overflow_cast-result
overflow_cast-result c =
    let within = tried-within c.args.geom.now c.args.kind (c.from.result + c.from-2.result) c.requires in
    let same : c.from-3.result ≡ clusters_of c.args.geom.now c.args.kind = c.from-3.ensures ∙ c.clusters.ensures in
    let rest : (c.from.result + c.from-2.result) % c.from-3.result < clusters_of c.args.geom.now c.args.kind = rw same within in
    omega (arith, rest, (c.requires (Clusters c.args.kind)).1)

pub returns-clause-within : goal.returns-clause-within
returns-clause-within c =
    let same : c.from-3.result ≡ clusters_of c.args.geom.now c.args.kind = c.from-3.ensures ∙ c.clusters.ensures in
    rw same (tried-within c.args.geom.now c.args.kind (c.from.result + c.from-2.result) c.requires)

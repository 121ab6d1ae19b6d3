-- One more part is decoded, and at the end all are.
use Rattle.std.proofs.Common.{◌≡◌, [], ◌∷◌, ◌++◌, slice_get, ap, rules, arith}
use Rattle.ds_base.specs.Geometry.{clusters_of}
use Rattle.ds_image_parts.specs.Readings.{SpellsBits}
use Rattle.ds_image_parts.proofs.Spelling.PartsRead.{reading-more, reading-all}
use Rattle.ds_image_parts.proofs.parts.maps_of.Goals as goal

pub loop-cluster-preserved : goal.loop-cluster-preserved
loop-cluster-preserved _ c =
    let more : c.push.new.self.items ≡ c.loop-cluster.maps.items ++ c.bits_of.result ∷ [] = search rules in
    reading-more c.loop-cluster.cluster (SpellsBits c.args.image.now.geom (slice_get c.args.image.now.sectors) c.args.kind) _ _ _ more c.loop-cluster.invariant c.bits_of.ensures

pub returns : goal.returns
returns _ c = reading-all c.loop-cluster.cluster _ (SpellsBits c.args.image.now.geom (slice_get c.args.image.now.sectors) c.args.kind) _ (omega (arith, c.loop-cluster-test.false, c.loop-cluster.auto, ap (λ g. clusters_of g c.args.kind) c.geom.ensures.value, c.clusters-count.ensures)) c.loop-cluster.invariant

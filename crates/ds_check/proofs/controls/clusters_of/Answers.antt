-- One more is decoded.
use Rattle.std.proofs.Common.{◌≡◌, [], ◌∷◌, ◌++◌, slice_get, rules, arith}
use Rattle.ds_base.specs.Geometry.{clusters_of}
use Rattle.ds_check.specs.Controls.{SpellsCluster}
use Rattle.ds_image_parts.proofs.Spelling.PartsRead.{reading-more, reading-all}
use Rattle.ds_check.proofs.controls.clusters_of.Goals as goal

pub loop-number-preserved : goal.loop-number-preserved
loop-number-preserved c =
    let more : c.push.new.self.items ≡ c.loop-number.owners.items ++ c.cluster_at.result ∷ [] = search rules in
    reading-more c.loop-number.number (SpellsCluster c.args.geom.now (slice_get c.args.sectors.now) c.args.kind) _ _ _ more c.loop-number.invariant c.cluster_at.ensures

pub returns : goal.returns
returns c =
    reading-all c.loop-number.number (clusters_of c.args.geom.now c.args.kind) (SpellsCluster c.args.geom.now (slice_get c.args.sectors.now) c.args.kind) c.loop-number.owners.items (omega (arith, c.loop-number-test.false, c.loop-number.auto, c.cluster_count-number-end.ensures)) c.loop-number.invariant

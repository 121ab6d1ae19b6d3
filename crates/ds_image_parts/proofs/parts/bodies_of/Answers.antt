-- One more part is decoded, and at the end all are.
use Rattle.std.proofs.Common.{◌≡◌, [], ◌∷◌, ◌++◌, slice_get, ap, rules, arith}
use Rattle.ds_base.specs.Geometry.{items_of}
use Rattle.ds_base.specs.declared.geometry.Kind.TheVariants as kinds
use Rattle.ds_image_parts.specs.Readings.{SpellsBody}
use Rattle.ds_image_parts.proofs.Spelling.PartsRead.{reading-more, reading-all}
use Rattle.ds_image_parts.proofs.parts.bodies_of.Goals as goal

pub loop-object-preserved : goal.loop-object-preserved
loop-object-preserved _ c =
    let more : c.push.new.self.items ≡ c.loop-object.bodies.items ++ c.body_of.result ∷ [] = search rules in
    reading-more c.loop-object.object (SpellsBody c.args.image.now.geom (slice_get c.args.image.now.sectors)) _ _ _ more c.loop-object.invariant c.body_of.ensures

pub returns : goal.returns
returns _ c = reading-all c.loop-object.object _ (SpellsBody c.args.image.now.geom (slice_get c.args.image.now.sectors)) _ (omega (arith, c.loop-object-test.false, c.loop-object.auto, ap (λ g. items_of g kinds.Fd) c.geom.ensures.value, c.items-count.ensures)) c.loop-object.invariant

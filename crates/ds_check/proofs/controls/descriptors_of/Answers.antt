-- One more is decoded.
use Rattle.std.proofs.Common.{◌≡◌, [], ◌∷◌, ◌++◌, slice_get, rules, arith}
use Rattle.ds_base.specs.declared.geometry.Kind.TheVariants.{Fd}
use Rattle.ds_base.specs.Geometry.{items_of}
use Rattle.ds_check.specs.Controls.{SpellsOwner}
use Rattle.ds_image_parts.proofs.Spelling.PartsRead.{reading-more, reading-all}
use Rattle.ds_check.proofs.controls.descriptors_of.Goals as goal

pub loop-object-preserved : goal.loop-object-preserved
loop-object-preserved c =
    let more : c.push.new.self.items ≡ c.loop-object.owners.items ++ c.owner_at.result ∷ [] = search rules in
    reading-more c.loop-object.object (SpellsOwner c.args.geom.now (slice_get c.args.sectors.now)) _ _ _ more c.loop-object.invariant c.owner_at.ensures

pub returns : goal.returns
returns c =
    reading-all c.loop-object.object (items_of c.args.geom.now Fd) (SpellsOwner c.args.geom.now (slice_get c.args.sectors.now)) c.loop-object.owners.items (omega (arith, c.loop-object-test.false, c.loop-object.auto, c.descriptor_count-object-end.ensures)) c.loop-object.invariant

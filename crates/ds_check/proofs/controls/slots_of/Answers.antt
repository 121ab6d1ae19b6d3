-- One more is decoded.
use Rattle.std.proofs.Common.{◌≡◌, [], ◌∷◌, ◌++◌, slice_get, rules, arith}
use Rattle.ds_image_parts.specs.Readings.{SpellsSlot}
use Rattle.ds_image_parts.proofs.Spelling.PartsRead.{reading-more, reading-all}
use Rattle.ds_check.proofs.controls.slots_of.Goals as goal

pub loop-number-preserved : goal.loop-number-preserved
loop-number-preserved c =
    let more : c.push.new.self.items ≡ c.loop-number.slots.items ++ c.slot_at.result ∷ [] = search rules in
    reading-more c.loop-number.number (SpellsSlot c.args.geom.now (slice_get c.args.sectors.now)) _ _ _ more c.loop-number.invariant c.slot_at.ensures

pub returns : goal.returns
returns c = reading-all c.loop-number.number c.args.geom.now.slots (SpellsSlot c.args.geom.now (slice_get c.args.sectors.now)) c.loop-number.slots.items (omega (arith, c.loop-number-test.false, c.loop-number.auto)) c.loop-number.invariant

-- One more is decoded.
use Rattle.std.proofs.Common.{◌≡◌, [], ◌∷◌, ◌++◌, rules, arith}
use Rattle.ds_check.specs.Controls.{SpellsPending}
use Rattle.ds_image_parts.proofs.Spelling.PartsRead.{reading-more, reading-all}
use Rattle.ds_check.proofs.controls.pending_of.Goals as goal

pub loop-number-preserved : goal.loop-number-preserved
loop-number-preserved c =
    let more : c.push.new.self.items ≡ c.loop-number.pending.items ++ c.pending_at.result ∷ [] = search rules in
    reading-more c.loop-number.number (SpellsPending c.args.geom.now c.args.sectors.now) _ _ _ more c.loop-number.invariant c.pending_at.ensures

pub returns : goal.returns
returns c = reading-all c.loop-number.number c.args.geom.now.slots (SpellsPending c.args.geom.now c.args.sectors.now) c.loop-number.pending.items (omega (arith, c.loop-number-test.false, c.loop-number.auto)) c.loop-number.invariant

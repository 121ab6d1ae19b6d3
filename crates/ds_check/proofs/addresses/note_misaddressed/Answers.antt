-- Those of one more number are noted.
use Rattle.std.proofs.Common.{refl}
use Rattle.ds_image_parts.specs.Parts.{part_at}
use Rattle.ds_check.specs.Addresses.{address_finds}
use Rattle.ds_check.proofs.Rows.{row_step, same_finds}
use Rattle.ds_check.proofs.addresses.note_misaddressed.Goals as goal

pub loop-object-preserved : goal.loop-object-preserved
loop-object-preserved c =
    row_step c.args.report.now c.loop-object.report c.note_object.new.report (λ o. address_finds c.args.geom.now c.args.parts.now o (part_at c.args.parts.now.bodies o)) c.loop-object.object c.loop-object.invariant
    (same_finds (address_finds c.args.geom.now c.args.parts.now) c.loop-object.object c.loop-object.object c.body_at.result.now
    (part_at c.args.parts.now.bodies c.loop-object.object) c.loop-object.report c.note_object.new.report refl c.body_at.ensures c.in_ok-note_object.ensures)

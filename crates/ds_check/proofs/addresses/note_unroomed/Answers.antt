-- Those of one more number are noted.
use Rattle.std.proofs.Common.{refl}
use Rattle.ds_image_parts.specs.Objects.{subs_of}
use Rattle.ds_image_parts.specs.Parts.{part_at}
use Rattle.ds_check.specs.Addresses.{room_finds}
use Rattle.ds_check.proofs.Rows.{row_step, same_finds}
use Rattle.ds_check.proofs.addresses.note_unroomed.Goals as goal

pub loop-object-preserved : goal.loop-object-preserved
loop-object-preserved c =
    row_step c.args.report.now c.loop-object.report c.note_rooms.new.report (λ o. room_finds c.args.geom.now c.args.parts.now o (subs_of (part_at c.args.parts.now.bodies o))) c.loop-object.object c.loop-object.invariant
    (same_finds (room_finds c.args.geom.now c.args.parts.now) c.loop-object.object c.loop-object.object c.subs_at.result.now
    (subs_of (part_at c.args.parts.now.bodies c.loop-object.object)) c.loop-object.report c.note_rooms.new.report refl c.subs_at.ensures.exact c.in_ok-note_rooms.ensures)

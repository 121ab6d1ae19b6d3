-- Those of one more number are noted.
use Rattle.std.proofs.Common.{refl}
use Rattle.ds_image_parts.specs.Parts.{part_at}
use Rattle.ds_check.specs.Headers.{descriptor_owner, owner_finds}
use Rattle.ds_check.proofs.Rows.{row_step, same_finds}
use Rattle.ds_check.proofs.headers.note_descriptor_owners.Goals as goal

pub loop-object-preserved : goal.loop-object-preserved
loop-object-preserved c =
    row_step c.args.report.now c.loop-object.report c.note_owner.new.report (descriptor_owner c.args.controls.now) c.loop-object.object c.loop-object.invariant
    (same_finds (owner_finds c.args.controls.now.slots) c.loop-object.object c.loop-object.object c.descriptor.result
    (part_at c.args.controls.now.descriptors c.loop-object.object) c.loop-object.report c.note_owner.new.report refl c.descriptor.ensures c.in_ok-note_owner.ensures)

-- What is found of one more room is noted.
use Rattle.std.proofs.Common.{◌≡◌, ◌++◌, None, slice_index_or, ap, ◌∙◌}
use Rattle.std.proofs.lemmas.List.{get_or_default}
use Rattle.ds_check.specs.declared.findings.Find.TheVariants.{Dangling}
use Rattle.ds_check.specs.Entries.{dangling_room, is_dangling}
use Rattle.ds_check.specs.Rows.{find_if}
use Rattle.ds_check.proofs.Rows.{row_step}
use Rattle.ds_check.proofs.entries.note_dangling_in.Goals as goal

pub loop-room-preserved : goal.loop-room-preserved
loop-room-preserved c =
    let p = c.args.parts.now in
    let rooms = c.args.rooms.now in
    let r = c.loop-room.room in
    let tested : c.is_dangling.result ≡ is_dangling p (slice_index_or rooms r None) =
    c.is_dangling.ensures ∙ ap (is_dangling p) (c.index-rooms-room.is ∙ get_or_default rooms r _ None c.loop-room-test.true) in
    row_step c.args.report.now c.loop-room.report c.note_if.new.self (dangling_room p c.args.object rooms) r c.loop-room.invariant
    (c.in_ok-note_if.ensures ∙ ap (λ b. c.loop-room.report ++ find_if b (Dangling c.args.object r)) tested)

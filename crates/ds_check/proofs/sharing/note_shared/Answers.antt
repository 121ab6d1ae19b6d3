-- One more item is noted where it has two users.
use Rattle.std.proofs.Common.{◌<◌, length, arith}
use Rattle.ds_image_tables.specs.Users.{users}
use Rattle.ds_check.specs.Uses.{uses_of}
use Rattle.ds_check.specs.Sharing.{twice}
use Rattle.ds_check.proofs.Rows.{row_step}
use Rattle.ds_check.proofs.sharing.note_shared.Goals as goal

pub loop-item-preserved : goal.loop-item-preserved
loop-item-preserved c =
    let uses = uses_of c.args.geom.now c.args.parts.now c.args.kind in
    let item = c.loop-item.item in
    let there : item < length c.in_ok-users.users =
    omega (arith, c.in_ok-users.ensures.count, c.item_count-item-end.ensures, c.loop-item-test.true) in
    row_step c.args.report.now c.loop-item.report c.note_twice.new.report (λ n. twice c.args.kind n (users uses n)) item c.loop-item.invariant
    (c.in_ok-note_twice.ensures (users uses item)
    (c.first.ensures.of_uses uses c.in_ok-users.ensures.knows there)
    (c.second.ensures.of_uses uses c.in_ok-users.ensures.knows there))

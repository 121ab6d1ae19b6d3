use Rattle.std.proofs.Common.{◌<◌, length, arith}
use Rattle.std.proofs.lemmas.List.{get_or_default, take_rest}
use Rattle.ds_report.proofs.Given.{IsToldTo-start, IsToldTo-next}
use Rattle.ds_report.proofs.reports.write_parts.Goals as goal

pub loop-number-init : goal.loop-number-init
loop-number-init c = IsToldTo-start _ _ _ _ c.requires.order

pub loop-number-preserved : goal.loop-number-preserved
loop-number-preserved c =
    let in_range : c.loop-number.number < length c.args.events.now = omega arith in
    let rest = take_rest c.args.replies.now c.loop-number.told in
    IsToldTo-next _ _ _ _ _ _ _ _ _ _ _ _ c.loop-number.invariant in_range (get_or_default _ _ _ _ in_range)
    (rw rest at c.in_ok-told.ensures.count)
    (record { slot = c.in_ok-write_slot_line.ensures; lines = rw rest at c.in_ok-told.ensures.lines; death = c.in_ok-write_death.ensures })

use Rattle.std.proofs.Common.{sym, subst}
use Rattle.ds_break.proofs.Images.{broken-is}
use Rattle.ds_break.proofs.runs.BreakRun.next.Goals as goal
use Rattle.ds_marks.specs.Slot.{InRanges}

pub swap-requires-clause-to : goal.swap-requires-clause-to
swap-requires-clause-to c = subst InRanges (sym c.broken.ensures) (broken-is _ c.self.invariant.is_break)

pub swap-requires-in-Clearing-clause-from : goal.swap-requires-in-Clearing-clause-from
swap-requires-in-Clearing-clause-from c = subst InRanges (sym c.broken-in-Clearing.ensures) (broken-is _ c.self.invariant.is_break)

use Rattle.std.proofs.Common.{length, ◌-◌}
use Rattle.ds_top.proofs.EdgeLaws.{IsReadTo}
use Rattle.ds_top.proofs.input.read_all.Given as goal

abbrev pub invariant-loop-n : goal.invariant-loop-n
invariant-loop-n g l =
    IsReadTo (g.S.Source.left l.fn.source) (g.S.Source.left l.source) (g.S.Source.faults l.fn.source) (g.S.Source.faults l.source) l.bytes.items l.limit

abbrev pub decreases-loop-n : goal.decreases-loop-n
decreases-loop-n g l = l.limit - length l.bytes.items

use Rattle.std.proofs.Common.{length}
use Rattle.ds_top.proofs.SectorLaws.{IsFrontWritten}
use Rattle.ds_top.proofs.output.write_sectors.Given as goal

abbrev pub invariant-sectors : goal.invariant-sectors
invariant-sectors g l =
    IsFrontWritten (g.K.Sink.taken l.fn.sink) (g.K.Sink.taken l.sink) (g.K.Sink.faults l.fn.sink) (g.K.Sink.faults l.sink) l.fn.sectors l.left

abbrev pub decreases-sectors : goal.decreases-sectors
decreases-sectors g l = length l.left

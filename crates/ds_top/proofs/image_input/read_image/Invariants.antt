use Rattle.std.proofs.Common.{length, ◌-◌, ◌+◌, ◌*◌}
use Rattle.ds_top.proofs.ImageLaws.{IsPartRead}
use Rattle.ds_top.proofs.image_input.read_image.Given as goal

abbrev pub invariant-loop-n : goal.invariant-loop-n
invariant-loop-n g l =
    IsPartRead (g.S.Source.left l.fn.source) (g.S.Source.left l.source) (g.S.Source.faults l.fn.source) (g.S.Source.faults l.source) l.sectors.items l.part l.filled

abbrev pub decreases-loop-n : goal.decreases-loop-n
decreases-loop-n g l = 67108864 - (length l.sectors.items * 512 + l.filled)

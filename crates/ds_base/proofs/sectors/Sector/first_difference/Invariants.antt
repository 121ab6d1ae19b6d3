use Rattle.std.proofs.Common.{◌≡◌, take}
use Rattle.ds_base.proofs.sectors.Sector.first_difference.Given as goal

abbrev pub invariant-loop-i : goal.invariant-loop-i
invariant-loop-i l = take l.i l.self.bytes ≡ take l.i l.other.bytes

-- The sector is not among the pairs so far.
use Rattle.std.proofs.Common.{◌≡◌, drop}
use Rattle.ds_image.specs.SeenValues.{sector_in}
use Rattle.ds_image.proofs.seen.Seen.sector.Given as goal

abbrev pub invariant-loop-pair : goal.invariant-loop-pair
invariant-loop-pair l = sector_in l.self.sectors l.at ≡ sector_in (drop l.pair-index l.self.sectors) l.at

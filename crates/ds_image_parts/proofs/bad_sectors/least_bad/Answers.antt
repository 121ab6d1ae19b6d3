-- No sector is bad where none in front of the file blocks is.
use Rattle.std.proofs.Common.{arith}
use Rattle.ds_image_parts.proofs.Spelling.BadSectors.{bad_within}
use Rattle.ds_image_parts.proofs.bad_sectors.least_bad.Goals as goal

pub returns : goal.returns
returns g c = λ at bad.
    let within = bad_within c.args.geom.now (g.S.Store.sectors c.args.store.now) at c.requires.geom bad in
    c.loop-at.invariant at (omega (arith, within, c.requires.end, c.loop-at-test.false, c.loop-at.auto)) bad

-- Where nothing is found in front no sector is bad.
use Rattle.ds_check.proofs.NoBad.{no_bad}
use Rattle.ds_check.proofs.checking.check_volume.Goals as goal

pub found_behind-requires-clause-good : goal.found_behind-requires-clause-good
found_behind-requires-clause-good c =
    no_bad c.args.geom.now c.args.id c.args.sectors.now c.in_ok-front.front c.in_ok-front.ensures (c.is_empty.ensures.0 c.if-is_empty.true)

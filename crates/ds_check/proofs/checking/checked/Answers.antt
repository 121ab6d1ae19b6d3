-- Without findings the volume stands for a tree.
use Rattle.ds_check.proofs.CleanTrees.{stands-once}
use Rattle.ds_check.proofs.checking.checked.Goals as goal

pub returns-in-Ok-check_volume-clause-sound : goal.returns-in-Ok-check_volume-clause-sound
returns-in-Ok-check_volume-clause-sound c none =
    stands-once c.args.sectors.now c.in-Ok.geom c.in-Ok.id c.in-Ok.ensures (c.in-Ok-check_volume.ensures.sound none)

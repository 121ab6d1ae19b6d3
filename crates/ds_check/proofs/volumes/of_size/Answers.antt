-- There are other sectors than the volume has, or just those.
use Rattle.std.proofs.Common.{arith}
use Rattle.ds_check.proofs.VolumeInfo.{other_size}
use Rattle.ds_check.proofs.volumes.of_size.Goals as goal

pub total-total-requires : goal.total-total-requires
total-total-requires c = c.requires.0.is_geom

pub returns-then-sectors-total : goal.returns-then-sectors-total
returns-then-sectors-total c =
    other_size c.args.sectors.now c.args.volume.0 c.args.volume.1 c.min.result c.requires (λ same. omega (arith, c.if-sectors-total.true, c.total-total.ensures.exact, same))
    (omega (arith, c.min.ensures, c.total-total.ensures.exact))

pub returns : goal.returns
returns c = record { spelled = c.requires; size = omega (arith, c.if-sectors-total.false, c.total-total.ensures.exact) }

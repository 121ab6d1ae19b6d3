-- The first sector spells the volume, or none.
use Rattle.ds_check.proofs.VolumeInfo.{not_spelled, spelled}
use Rattle.ds_check.proofs.volumes.volume_in.Goals as goal

pub returns-in-None : goal.returns-in-None
returns-in-None c =
    not_spelled c.args.sectors.now c.sector-first.result c.decode_vol.result c.sector-first.ensures c.decode_vol.ensures c.in-None.is

pub of_size-requires : goal.of_size-requires
of_size-requires c =
    let volume = c.in-Some.volume in
    spelled c.args.sectors.now c.sector-first.result c.decode_vol.result volume.0 volume.1 c.sector-first.ensures c.decode_vol.ensures c.in-Some.is

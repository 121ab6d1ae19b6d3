use Rattle.ds_layout.proofs.FirstSectors.{names_fs}
use Rattle.ds_layout.proofs.volume.fs_named.Goals as goal

pub returns-clause-named : goal.returns-clause-named
returns-clause-named c = λ volume h e.
    names_fs c.args.sector.now.bytes volume c.read-parts.result c.read-parts.ensures.fits h c.read-parts.ensures.parts e

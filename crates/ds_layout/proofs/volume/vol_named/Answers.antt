use Rattle.std.proofs.Common.{◌∙◌}
use Rattle.ds_layout.proofs.FirstSectors.{names_vol, both_same}
use Rattle.ds_layout.proofs.volume.vol_named.Goals as goal

pub returns-clause-named : goal.returns-clause-named
returns-clause-named c = λ g volume h e.
    let named = names_vol c.args.sector.now.bytes volume c.read.result g c.read.ensures.fits h c.read.ensures.parts e in
    both_same c.values.result g volume (c.values.ensures.geom ∙ named.0) (c.values.ensures.id ∙ named.1)

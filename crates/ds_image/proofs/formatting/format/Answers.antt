-- All sectors were made, and so the volume is the formatted one.
use Rattle.std.proofs.Common.{◌≡◌, arith}
use Rattle.ds_layout.specs.Places.{total_of}
use Rattle.ds_image.proofs.NewVolumes.FormattedUpTo.{all_formatted}
use Rattle.ds_image.proofs.NewVolumes.FreshVolume.{front_is_logical, fresh_stands}
use Rattle.ds_image.proofs.formatting.format.Goals as goal

pub returns-clause-formatted : goal.returns-clause-formatted
returns-clause-formatted c =
    let all : c.loop-at.at ≡ total_of c.args.geom.now = omega (arith, c.total-count.ensures.exact) in
    all_formatted c.args.geom.now c.args.volume c.loop-at.at c.loop-at.sectors.items c.requires all c.loop-at.invariant

pub returns-clause-logical : goal.returns-clause-logical
returns-clause-logical c =
    front_is_logical c.args.geom.now c.args.volume c.loop-at.sectors.items c.requires (returns-clause-formatted c)

pub returns-clause-stands : goal.returns-clause-stands
returns-clause-stands c =
    fresh_stands c.args.geom.now c.args.volume c.loop-at.sectors.items c.requires (returns-clause-formatted c)

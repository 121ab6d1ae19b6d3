-- All sectors in front of the file blocks were put, and so the volume is the formatted one.
use Rattle.std.proofs.Common.{◌≡◌, ℕ, ◌<◌, List, replicate, ap, ◌∙◌, arith}
use Rattle.std.specs.Prelude.{slice_set}
use Rattle.ds_base.specs.declared.sectors.Sector.{Sector}
use Rattle.ds_layout.specs.Places.{blocks_at, total_of}
use Rattle.ds_lun.specs.Devices.{zero_sector}
use Rattle.ds_image.proofs.NewVolumes.FormattedInFront.{none_put, one_put, all_put}
use Rattle.ds_image.proofs.NewVolumes.FreshVolume.{front_is_logical, fresh_stands}
use Rattle.ds_image.proofs.formatting.format_sparse.Goals as goal

pub loop-at-init : goal.loop-at-init
loop-at-init c =
    none_put c.args.geom.now c.args.volume c.in_ok-lun.lun.sectors
    (c.in_ok-lun.ensures ∙ ap (λ (n : ℕ). replicate n zero_sector) c.total.ensures.exact)

pub loop-at-preserved : goal.loop-at-preserved
loop-at-preserved c =
    let there : c.loop-at.at < total_of c.args.geom.now = omega (arith, c.first_block-at-end.ensures) in
    one_put c.args.geom.now c.args.volume c.loop-at.at c.loop-at.lun.sectors c.do_command.new.self.sectors c.sector_numbered-fresh.result c.requires there
    (c.do_command.ensures.stored ∙ ap (λ (sectors : List Sector). slice_set sectors c.loop-at.at c.sector_numbered-fresh.result) c.in_ok-make_room.ensures.sectors)
    c.loop-at.invariant c.sector_numbered-fresh.ensures

pub returns-clause-formatted : goal.returns-clause-formatted
returns-clause-formatted c =
    let all : c.loop-at.at ≡ blocks_at c.args.geom.now = omega (arith, c.first_block-at-end.ensures) in
    all_put c.args.geom.now c.args.volume c.loop-at.at c.loop-at.lun.sectors c.requires all c.loop-at.invariant

pub returns-clause-logical : goal.returns-clause-logical
returns-clause-logical c =
    front_is_logical c.args.geom.now c.args.volume c.loop-at.lun.sectors c.requires (returns-clause-formatted c)

pub returns-clause-stands : goal.returns-clause-stands
returns-clause-stands c =
    fresh_stands c.args.geom.now c.args.volume c.loop-at.lun.sectors c.requires (returns-clause-formatted c)

-- A store has one logical image.
use Rattle.std.proofs.lemmas.Result.{IfOk-weaker}
use Rattle.std.proofs.Common.{◌≡◌, List}
use Rattle.ds_base.specs.declared.sectors.Sector.{Sector}
use Rattle.ds_image_parts.specs.ImageValues.{ImageValue}
use Rattle.ds_image_parts.specs.Logical.{IsLogical}
use Rattle.ds_image_parts.proofs.Journaling.OneLogical.{logical_once}
use Rattle.ds_image_parts.proofs.logical.overlay.Goals as goal

pub returns-clause-only : goal.returns-clause-only
returns-clause-only g c =
    let sectors = g.S.Store.sectors c.args.store.now in
    IfOk-weaker _
    (λ (image : ImageValue). IsLogical c.args.geom.now sectors image.sectors)
    (λ (image : ImageValue). (other : List Sector) → IsLogical c.args.geom.now sectors other → other ≡ image.sectors)
    (λ image is other that. logical_once c.args.geom.now sectors other image.sectors that is)
    c.overlaid.ensures.logical

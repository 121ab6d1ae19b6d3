-- Where nothing is found in the logical image it stands for a tree.
use Rattle.std.proofs.lemmas.Result.{IfOk-weaker}
use Rattle.std.proofs.Common.{◌≡◌, [], slice_get, subst}
use Rattle.ds_base.specs.declared.geometry.Geom.{Geom}
use Rattle.ds_image_parts.specs.BadSectors.{IsLeastBad}
use Rattle.ds_image_parts.specs.Faults.{IsFaultOf}
use Rattle.ds_image_parts.specs.ImageValues.{ImageValue, IsImage}
use Rattle.ds_image_parts.specs.Readings.{ReadsParts}
use Rattle.ds_image_parts.specs.declared.images.ImageFault.{ImageFault}
use Rattle.ds_check.specs.Checks.{StandsForTree}
use Rattle.ds_check.specs.Findings.{AreFoundIn}
use Rattle.ds_check.proofs.CleanTrees.{stands-found}
use Rattle.ds_check.proofs.checking.found_behind.Goals as goal

pub returns-in_ok-parts-in-Ok-clause-sound : goal.returns-in_ok-parts-in-Ok-clause-sound
returns-in_ok-parts-in-Ok-clause-sound c =
    let g = c.args.geom.now in
    let sectors = c.args.sectors.now in
    let image = c.in-Ok.image in
    let p = c.in_ok-parts-in-Ok.parts in
    let whole : IsImage image.geom image.sectors = subst (λ (v : ImageValue). IsImage v.geom v.sectors) c.image.view_is c.image.invariant.0 in
    let is : IsImage g image.sectors = subst (λ (h : Geom). IsImage h image.sectors) c.in-Ok.ensures.geom whole in
    let reads : ReadsParts g (slice_get image.sectors) p = subst (λ (h : Geom). ReadsParts h (slice_get image.sectors) p) c.in-Ok.ensures.geom c.in_ok-parts-in-Ok.ensures in
    IfOk-weaker _ (AreFoundIn g p) (λ finds. finds ≡ [] → StandsForTree g sectors)
    (λ finds found none. stands-found g sectors image.sectors p finds c.requires.good c.in-Ok.ensures.logical is reads found none)
    c.found_in.ensures

-- no sector is bad
pub unreachable-requires : goal.unreachable-requires
unreachable-requires c =
    let g = c.args.geom.now in
    let sectors = c.args.sectors.now in
    let bad : IsLeastBad g sectors c.in-Err-Bad.field-0-0 = subst (λ (f : ImageFault). IsFaultOf g sectors f) c.in-Err-Bad.field-0-is c.in-Err-Bad.ensures.fault in
    c.requires.good c.in-Err-Bad.field-0-0 bad.is_bad

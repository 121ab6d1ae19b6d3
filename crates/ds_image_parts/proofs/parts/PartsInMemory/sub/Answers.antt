-- What is decoded is the part that its sector spells; past the last there is none.
use Rattle.std.proofs.Common.{◌<◌, ◌≤◌, slice_get, ap, ◌∙◌, arith}
use Rattle.ds_base.specs.Geometry.{items_of}
use Rattle.ds_base.specs.declared.geometry.Geom.{Geom}
use Rattle.ds_base.specs.declared.geometry.Kind.TheVariants as kinds
use Rattle.ds_image_parts.specs.Parts.{Parts, part_at}
use Rattle.ds_image_parts.specs.Readings.{SpellsSub}
use Rattle.ds_image_parts.proofs.Spelling.PartsRead.{part_read, part_past}
use Rattle.ds_image_parts.proofs.Spelling.SpellingParts.{subs-read}
use Rattle.ds_image_parts.proofs.parts.PartsInMemory.sub.Goals as goal

pub returns-then-number-items : goal.returns-then-number-items
returns-then-number-items g c =
    let p = c.self.inside in
    let image = p.image.now in
    let within : c.args.number < items_of image.geom kinds.Sb =
    omega (arith, c.if-number-items.true, c.items.ensures, ap (λ (h : Geom). items_of h kinds.Sb) c.geom.ensures.value) in
    part_read _ (SpellsSub image.geom (slice_get image.sectors)) _ c.args.number c.sub_of.result (subs-read image.geom image.sectors p.whole) within c.sub_of.ensures
    ∙ ap (λ (q : Parts). part_at q.subs c.args.number) c.self.view_is

pub returns-else-number-items : goal.returns-else-number-items
returns-else-number-items g c =
    let p = c.self.inside in
    let image = p.image.now in
    let past : items_of image.geom kinds.Sb ≤ c.args.number =
    omega (arith, c.if-number-items.false, c.items.ensures, ap (λ (h : Geom). items_of h kinds.Sb) c.geom.ensures.value) in
    part_past _ (SpellsSub image.geom (slice_get image.sectors)) _ c.args.number (subs-read image.geom image.sectors p.whole) past
    ∙ ap (λ (q : Parts). part_at q.subs c.args.number) c.self.view_is

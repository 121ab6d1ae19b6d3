-- A cluster has at least one item, and none is used at first.
use Rattle.std.proofs.Common.{◌<◌, false, replicate, slice_get, Some, ap, ◌∙◌, arith}
use Rattle.std.proofs.lemmas.List.{get_or-replicate, length-replicate}
use Rattle.std.proofs.lemmas.Option.{slice_get-get_or}
use Rattle.ds_base.specs.Geometry.{per_cluster}
use Rattle.ds_base.specs.declared.geometry.GeomField.TheVariants.{Items}
use Rattle.ds_bitmap.specs.Bits.{Bitmap}
use Rattle.ds_image.proofs.formatting.fresh_bits.Goals as goal

pub take-requires : goal.take-requires
take-requires c =
    let items = per_cluster c.args.geom.now c.args.kind in
    let some : 0 < items = (c.requires.geom (Items c.args.kind)).0 in
    ap (λ (b : Bitmap). slice_get b.used 0) c.new-bits.ensures
    ∙ slice_get-get_or (replicate items false) 0 false (omega (arith, length-replicate items false))
    ∙ ap Some (get_or-replicate items 0 false false some)

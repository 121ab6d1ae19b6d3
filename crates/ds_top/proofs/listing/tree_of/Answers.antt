use Rattle.std.proofs.Common.{◌≡◌, List, Option, sym, ap, subst, ◌∙◌}
use Rattle.std.specs.Prelude.{MatchOption}
use Rattle.ds_base.specs.Geometry.{IsGeom}
use Rattle.ds_base.specs.declared.geometry.Geom.{Geom}
use Rattle.ds_base.specs.declared.sectors.Sector.{Sector}
use Rattle.ds_layout.specs.Places.{total_of}
use Rattle.ds_tree.specs.declared.trees.Tree.{Tree}
use Rattle.ds_image_parts.specs.BadSectors.{HasNoBad, IsLeastBad}
use Rattle.ds_image_parts.specs.Faults.{IsFaultOf}
use Rattle.ds_image_parts.specs.Logical.{IsLogical}
use Rattle.ds_image.specs.ReadTrees.{StandsForNone}
use Rattle.ds_image.specs.Sound.{StandsFor}
use Rattle.ds_image_parts.specs.declared.images.ImageFault.{ImageFault}
use Rattle.ds_top.proofs.listing.tree_of.Goals as goal

pub overlay-requires-clause-geom : goal.overlay-requires-clause-geom
overlay-requires-clause-geom c = subst IsGeom (sym (c.geom_of-geom.ensures c.requires)) c.requires.volume.spelled.0.is_geom

pub overlay-requires-clause-size : goal.overlay-requires-clause-size
overlay-requires-clause-size c = c.requires.volume.size ∙ ap total_of (sym (c.geom_of-geom.ensures c.requires))

pub unreachable-requires : goal.unreachable-requires
unreachable-requires c =
    let v = c.requires in
    let g : Geom = c.geom_of-geom.result in
    let sectors : List Sector = c.args.sectors.now in
    let good : HasNoBad g sectors = subst (λ (x : Geom). HasNoBad x sectors) (sym (c.geom_of-geom.ensures v)) v.stands.good in
    let bad : IsLeastBad g sectors c.in-Err-Bad.field-0-0 = subst (λ (f : ImageFault). IsFaultOf g sectors f) c.in-Err-Bad.field-0-is c.in-Err-Bad.ensures.fault in
    good c.in-Err-Bad.field-0-0 bad.is_bad

pub unreachable-requires-in-Ok-None : goal.unreachable-requires-in-Ok-None
unreachable-requires-in-Ok-None c =
    let v = c.requires in
    let sectors : List Sector = c.args.sectors.now in
    let image = c.in-Ok.image in
    let geom : image.geom ≡ v.geom = c.in-Ok.ensures.geom ∙ c.geom_of-geom.ensures v in
    let logical : IsLogical c.geom_of-geom.result sectors v.stands.image =
    subst (λ (x : Geom). IsLogical x sectors v.stands.image) (sym (c.geom_of-geom.ensures v)) v.stands.is_logical in
    let same : v.stands.image ≡ image.sectors = c.in-Ok.ensures.only v.stands.image logical in
    let stands : StandsFor image.geom image.sectors v.stands.tree =
    subst (λ (x : Geom). StandsFor x image.sectors v.stands.tree) (sym geom) (subst (λ (s : List Sector). StandsFor v.geom s v.stands.tree) same v.stands.stands) in
    let none : StandsForNone image.geom image.sectors =
    subst (λ (o : Option Tree). MatchOption o (StandsForNone image.geom image.sectors) (λ t. StandsFor image.geom image.sectors t.tree)) c.in-Ok-None.field-0-is c.in-Ok-None.ensures.tree in
    none v.stands.tree stands

pub returns : goal.returns
returns c =
    let v = c.requires in
    let sectors : List Sector = c.args.sectors.now in
    let image = c.in-Ok.image in
    let tree = c.in-Ok-Some.tree in
    let geom : image.geom ≡ v.geom = c.in-Ok.ensures.geom ∙ c.geom_of-geom.ensures v in
    let stands : StandsFor image.geom image.sectors tree.tree =
    subst (λ (o : Option Tree). MatchOption o (StandsForNone image.geom image.sectors) (λ t. StandsFor image.geom image.sectors t.tree)) c.in-Ok-Some.field-0-is c.in-Ok-Some.ensures.tree in
    record {
      geom = v.geom;
      id = v.id;
      volume = v.volume;
      image = image.sectors;
      is_logical = subst (λ (x : Geom). IsLogical x sectors image.sectors) (c.geom_of-geom.ensures v) c.in-Ok.ensures.logical;
      stands = subst (λ (x : Geom). StandsFor x image.sectors tree.tree) geom stands;
    }

use Rattle.std.proofs.Common.{◌≡◌, List, Option, subst, sym, ◌∙◌}
use Rattle.std.proofs.lemmas.Bool.{false≢true}
use Rattle.ds_base.specs.declared.geometry.Kind.TheVariants as kinds
use Rattle.ds_bitmap.specs.Bits.{Bitmap}
use Rattle.ds_image_parts.specs.Parts.{AllSpelled, maps_of}
use Rattle.ds_image.proofs.Spelling.SoundParts.{each_kind}
use Rattle.ds_image.proofs.soundness.are_maps_spelled.Goals as goal

spelled_in : {xs ys : List (Option Bitmap)} → xs ≡ ys → AllSpelled xs → AllSpelled ys
spelled_in same all = subst (λ (maps : List (Option Bitmap)). AllSpelled maps) same all

pub returns : goal.returns
returns _ c = (
  λ yes. each_kind (λ kind. AllSpelled (maps_of c.args.parts.now kind))
      (spelled_in c.maps.ensures (c.are_spelled.ensures.0 c.if-not-are_spelled.false))
      (spelled_in c.maps-2.ensures (c.are_spelled-2.ensures.0 c.if-not-are_spelled-2.false))
      (spelled_in c.maps-3.ensures (c.are_spelled-3.ensures.0 c.if-not-are_spelled-3.false))
      (spelled_in c.maps-4.ensures (c.are_spelled-4.ensures.0 yes)),
  λ all. c.are_spelled-4.ensures.1 (spelled_in (sym c.maps-4.ensures) (all kinds.Fb)),
)

pub returns-then-not-are_spelled : goal.returns-then-not-are_spelled
returns-then-not-are_spelled _ c =
    (λ wrong. absurd (false≢true wrong), λ all. absurd (false≢true (sym c.if-not-are_spelled.true ∙ c.are_spelled.ensures.1 (spelled_in (sym c.maps.ensures) (all kinds.Fd)))))

pub returns-then-not-are_spelled-2 : goal.returns-then-not-are_spelled-2
returns-then-not-are_spelled-2 _ c =
    (λ wrong. absurd (false≢true wrong), λ all. absurd (false≢true (sym c.if-not-are_spelled-2.true ∙ c.are_spelled-2.ensures.1 (spelled_in (sym c.maps-2.ensures) (all kinds.Sb)))))

pub returns-then-not-are_spelled-3 : goal.returns-then-not-are_spelled-3
returns-then-not-are_spelled-3 _ c =
    (λ wrong. absurd (false≢true wrong), λ all. absurd (false≢true (sym c.if-not-are_spelled-3.true ∙ c.are_spelled-3.ensures.1 (spelled_in (sym c.maps-3.ensures) (all kinds.Pb)))))

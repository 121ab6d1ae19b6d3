use Rattle.std.proofs.Common.{Bool, List, length, ◌<◌, ◌^◌, sym, ap, ◌∙◌, subst}
use Rattle.ds_base.specs.declared.geometry.Kind.TheVariants as kinds
use Rattle.ds_image_parts.specs.Parts.{bits_in}
use Rattle.ds_image.proofs.soundness.is_marked.Goals as goal

abbrev IsShort : List Bool → Type 0
IsShort bits = length bits < 2 ^ 32

pub owns-requires : goal.owns-requires
owns-requires _ c = subst IsShort (sym (c.deref-2.ensures.value ∙ c.in_ok-subs.ensures ∙ ap bits_in c.maps-2.ensures)) (c.requires kinds.Sb)

pub owns-requires-2 : goal.owns-requires-2
owns-requires-2 _ c = subst IsShort (sym (c.deref-3.ensures.value ∙ c.in_ok-ptrs.ensures ∙ ap bits_in c.maps-3.ensures)) (c.requires kinds.Pb)

pub owns-requires-3 : goal.owns-requires-3
owns-requires-3 _ c = subst IsShort (sym (c.deref-4.ensures.value ∙ c.in_ok-blocks.ensures ∙ ap bits_in c.maps-4.ensures)) (c.requires kinds.Fb)

use Rattle.std.proofs.Common.{◌∙◌, not, refl, sym, ap, subst}
use Rattle.std.specs.Prelude.{is_some, IsSome, All}
use Rattle.std.proofs.lemmas.List.{take_all}
use Rattle.std.proofs.lemmas.List.Elements.{All-more}
use Rattle.ds_image_parts.specs.Parts.{part_at}
use Rattle.ds_image.proofs.sound_objects.are_subs_spelled.Goals as goal

pub loop-number-preserved : goal.loop-number-preserved
loop-number-preserved g c =
    All-more (λ n. IsSome (part_at c.args.parts.now.subs n)) c.args.subs.now c.loop-number.number-index 0 c.loop-number-test.true c.loop-number.invariant
    (ap is_some (sym c.sub.ensures) ∙ c.is_none.ensures ∙ ap not c.if-is_none.false)

pub returns : goal.returns
returns g c =
    let all = subst (All (λ n. IsSome (part_at c.args.parts.now.subs n))) (take_all c.loop-number.number-index c.args.subs.now c.loop-number-test.false) c.loop-number.invariant in
    (λ _. all, λ _. refl)

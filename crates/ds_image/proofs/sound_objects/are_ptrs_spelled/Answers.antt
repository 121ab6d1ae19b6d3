use Rattle.std.proofs.Common.{rules, refl, subst}
use Rattle.std.specs.Prelude.{IsSome, All}
use Rattle.std.proofs.lemmas.List.{take_all}
use Rattle.std.proofs.lemmas.List.Elements.{All-more}
use Rattle.ds_image_parts.specs.Parts.{part_at}
use Rattle.ds_image.proofs.sound_objects.are_ptrs_spelled.Goals as goal

pub loop-number-preserved : goal.loop-number-preserved
loop-number-preserved g c =
    All-more (λ n. IsSome (part_at c.args.parts.now.ptrs n)) c.args.ptrs.now c.loop-number.number-index 0 c.loop-number-test.true c.loop-number.invariant
    (search rules)

pub returns : goal.returns
returns g c =
    let all = subst (All (λ n. IsSome (part_at c.args.parts.now.ptrs n))) (take_all c.loop-number.number-index c.args.ptrs.now c.loop-number-test.false) c.loop-number.invariant in
    (λ _. all, λ _. refl)

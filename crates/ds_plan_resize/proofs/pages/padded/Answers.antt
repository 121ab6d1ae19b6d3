-- All numbers are written.
use Rattle.std.proofs.Common.{◌≡◌, ◌-◌, ◌++◌, length, replicate, ap, ◌∙◌, arith}
use Rattle.std.proofs.lemmas.List.{take_all}
use Rattle.ds_plan_resize.proofs.Padding.{zeros-are}
use Rattle.ds_plan_resize.proofs.pages.padded.Goals as goal

pub returns : goal.returns
returns g c =
    let numbers = c.args.numbers.now in
    let i = c.loop-i.i in
    let n = g.row.N in
    let all : i ≡ length numbers = omega arith in
    c.loop-i.invariant ∙ ap (λ l. l ++ replicate (n - i) 0) (take_all i numbers (omega (arith, all)))
    ∙ ap (λ k. numbers ++ replicate (n - k) 0) all ∙ ap (λ z. numbers ++ z) (zeros-are (n - length numbers))

use Rattle.std.proofs.Common.{◌≡◌, length, sym, ◌∙◌, arith}
use Rattle.std.proofs.lemmas.Bool.Decides.{nat_tests}
use Rattle.ds_script.proofs.Fronts.{words_of-none}
use Rattle.ds_script.proofs.lines.next_word.Goals as goal

pub returns-then-is_empty-clause-word : goal.returns-then-is_empty-clause-word
returns-then-is_empty-clause-word c =
    let none : length c.past_blanks-line.result.now ≡ 0 = grind (arith, nat_tests) in
    sym c.past_blanks-line.ensures.same ∙ words_of-none _ none

use Rattle.std.proofs.Common.{◌≡◌, ◌∙◌, false, sym}
use Rattle.ds_tree.specs.Lines.{lines_of, words_of, is_comment}
use Rattle.ds_script.proofs.LineSteps.{none_read-kept}
use Rattle.ds_script.proofs.reading.expect_no_more.Goals as goal

pub returns-then-not-is_comment : goal.returns-then-not-is_comment
returns-then-not-is_comment c =
    let kept : is_comment (words_of c.in-Some.line.now) ≡ false = cc in
    let here = none_read-kept c.loop-line.number (lines_of c.loop-line.rest.now) c.in-Some.line.now (lines_of c.in-Some.behind.now)
    c.in-Some.ensures.line kept in
    sym (c.loop-line.invariant.0 ∙ here)

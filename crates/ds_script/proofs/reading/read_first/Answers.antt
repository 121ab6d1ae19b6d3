use Rattle.std.proofs.Common.{◌≡◌, ◌∙◌, false}
use Rattle.ds_tree.specs.Lines.{lines_of, words_of, is_comment}
use Rattle.ds_script.proofs.Ends.{gives_fault}
use Rattle.ds_script.proofs.LineSteps.{first_read-ok, first_read-err}
use Rattle.ds_script.proofs.reading.read_first.Goals as goal

pub returns-in_err-volume-clause-read : goal.returns-in_err-volume-clause-read
returns-in_err-volume-clause-read c =
    let kept : is_comment (words_of c.in-Some.line.now) ≡ false = cc in
    let here = first_read-err c.loop-line.number (lines_of c.loop-line.rest.now) c.in-Some.line.now (lines_of c.in-Some.behind.now) _
    c.in-Some.ensures.line kept c.in_err-volume.ensures in
    gives_fault _ c.from_residual.result _ _ c.from_residual.ensures.1 (c.loop-line.invariant.0 ∙ here)

pub returns-then-not-is_comment-clause-read : goal.returns-then-not-is_comment-clause-read
returns-then-not-is_comment-clause-read c =
    let kept : is_comment (words_of c.in-Some.line.now) ≡ false = cc in
    let here = first_read-ok c.loop-line.number (lines_of c.loop-line.rest.now) c.in-Some.line.now (lines_of c.in-Some.behind.now)
    c.in_ok-volume.volume c.in-Some.ensures.line kept c.in_ok-volume.ensures in
    c.loop-line.invariant.0 ∙ here

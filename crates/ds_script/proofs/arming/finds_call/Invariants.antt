use Rattle.std.proofs.Common.{◌≡◌, length}
use Rattle.ds_tree.specs.Lines.{lines_of}
use Rattle.ds_script.specs.Faults.{is_armed}
use Rattle.ds_script.proofs.arming.finds_call.Given as goal

abbrev pub invariant-loop-line : goal.invariant-loop-line
invariant-loop-line l = is_armed l.host (lines_of l.text) ≡ is_armed l.host (lines_of l.rest)

abbrev pub decreases-loop-line : goal.decreases-loop-line
decreases-loop-line l = length l.rest

use Rattle.std.proofs.Common.{◌≡◌, ◌+◌, ◌≤◌, length}
use Rattle.ds_tree.specs.Lines.{lines_of}
use Rattle.ds_tree.specs.Grammar.{most_bytes}
use Rattle.ds_script.specs.Reading.{first_read}
use Rattle.ds_script.proofs.reading.read_first.Given as goal

abbrev pub invariant-loop-line : goal.invariant-loop-line
invariant-loop-line l =
    (first_read 1 (lines_of l.text) ≡ first_read l.number (lines_of l.rest)) × (l.number + length l.rest ≤ most_bytes + 1)

abbrev pub decreases-loop-line : goal.decreases-loop-line
decreases-loop-line l = length l.rest

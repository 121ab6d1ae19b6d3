use Rattle.std.proofs.Common.{◌≡◌, ◌+◌, ◌≤◌, length}
use Rattle.ds_tree.specs.Lines.{lines_of}
use Rattle.ds_tree.specs.Grammar.{most_bytes}
use Rattle.ds_script.specs.Reading.{read_from}
use Rattle.ds_script.proofs.reading.read_lines.Given as goal

abbrev pub invariant-loop-line : goal.invariant-loop-line
invariant-loop-line l =
    (read_from l.fn.draft l.fn.number (lines_of l.text) ≡ read_from l.draft l.number (lines_of l.rest))
    × (l.number + length l.rest ≤ most_bytes + 1)

abbrev pub decreases-loop-line : goal.decreases-loop-line
decreases-loop-line l = length l.rest

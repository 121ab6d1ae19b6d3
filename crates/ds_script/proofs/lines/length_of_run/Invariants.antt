use Rattle.std.proofs.Common.{◌≡◌, ◌+◌, drop}
use Rattle.std.specs.List.{prefix_len}
use Rattle.ds_tree.specs.Lines.{is_visible}
use Rattle.ds_script.proofs.lines.length_of_run.Given as goal

abbrev pub invariant-loop-i : goal.invariant-loop-i
invariant-loop-i l = prefix_len is_visible l.line ≡ l.i + prefix_len is_visible (drop l.i l.line)

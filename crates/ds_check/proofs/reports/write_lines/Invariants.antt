-- The findings so far are told, a line each.
use Rattle.std.proofs.Common.{◌≡◌, ◌++◌, take}
use Rattle.std.specs.List.{flat_map}
use Rattle.ds_check.specs.Texts.{find_line}
use Rattle.ds_check.proofs.reports.write_lines.Given as goal

abbrev pub invariant-loop-find : goal.invariant-loop-find
invariant-loop-find l = l.text ≡ l.fn.text ++ flat_map find_line (take l.find-index l.finds)

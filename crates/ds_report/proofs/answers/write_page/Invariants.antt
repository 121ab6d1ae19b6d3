use Rattle.std.proofs.Common.{◌≡◌, ◌++◌, take, codes, decimal}
use Rattle.std.specs.List.{flat_map}
use Rattle.ds_report.specs.Answers.{entry_text}
use Rattle.ds_report.proofs.answers.write_page.Given as goal

abbrev pub invariant-loop-name : goal.invariant-loop-name
invariant-loop-name l = l.text ≡ l.fn.text ++ (codes "ok " ++ decimal l.total ++ flat_map entry_text (take l.name-index l.names))

use Rattle.std.proofs.Common.{◌≡◌, ◌++◌, take, codes}
use Rattle.std.specs.List.{flat_map}
use Rattle.ds_report.specs.Answers.{item_text}
use Rattle.ds_report.proofs.answers.write_blocks.Given as goal

abbrev pub invariant-loop-block : goal.invariant-loop-block
invariant-loop-block l = l.text ≡ l.fn.text ++ (codes "ok" ++ flat_map item_text (take l.block-index l.blocks))

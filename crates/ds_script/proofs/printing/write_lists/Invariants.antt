use Rattle.std.proofs.Common.{◌≡◌, ◌++◌, take}
use Rattle.std.specs.List.{flat_map}
use Rattle.ds_tree.specs.Grammar.{names_of}
use Rattle.ds_script.specs.Printed.{list_text}
use Rattle.ds_script.proofs.printing.write_lists.Given as goal

abbrev pub invariant-loop-plan : goal.invariant-loop-plan
invariant-loop-plan l = l.text ≡ l.fn.text ++ flat_map (list_text (names_of l.hosts)) (take l.plan-index l.hosts)

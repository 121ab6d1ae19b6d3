use Rattle.std.proofs.Common.{◌≡◌, [], ◌++◌, take}
use Rattle.std.specs.List.{flat_map}
use Rattle.ds_tree.specs.Grammar.{Host}
use Rattle.ds_script.specs.Printed.{item_text}
use Rattle.ds_script.proofs.printing.write_hosts.Given as goal

abbrev pub invariant-loop-plan : goal.invariant-loop-plan
invariant-loop-plan l = l.text ≡ l.fn.text ++ flat_map (λ plan. item_text [] (Host plan.name)) (take l.plan-index l.hosts)

use Rattle.std.proofs.Common.{◌≡◌, ◌++◌, take}
use Rattle.std.specs.List.{flat_map}
use Rattle.ds_tree.specs.Grammar.{Step, names_of}
use Rattle.ds_script.specs.Printed.{item_text}
use Rattle.ds_script.proofs.printing.write_steps.Given as goal

abbrev pub invariant-loop-host : goal.invariant-loop-host
invariant-loop-host l = l.text ≡ l.fn.text ++ flat_map (λ step. item_text (names_of l.hosts) (Step step.0 step.1)) (take l.host-index l.steps)

use Rattle.std.proofs.Common.{◌≡◌, ◌∷◌, ◌++◌, take}
use Rattle.std.specs.List.{flat_map}
use Rattle.ds_tree.specs.Grammar.{names_of}
use Rattle.ds_script.specs.Printed.{directive_words, line_text}
use Rattle.ds_script.proofs.printing.write_list.Given as goal

abbrev pub invariant-loop-directive : goal.invariant-loop-directive
invariant-loop-directive l =
    l.text ≡ l.fn.text ++ flat_map (λ d. line_text (l.plan.name ∷ directive_words (names_of l.hosts) d)) (take l.directive-index l.directive-items)

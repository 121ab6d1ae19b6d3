-- What is printed spells the scenario.
use Rattle.std.proofs.Common.{◌≤◌, ℕ, List, length}
use Rattle.std.proofs.lemmas.Result.{IfOk-weaker}
use Rattle.ds_tree.specs.Grammar.{IsScenario, SpellsText, most_bytes}
use Rattle.ds_script.specs.Answers.{IsScenarioText}
use Rattle.ds_script.specs.Printed.{IsPrinted}
use Rattle.ds_script.proofs.PrintedTexts.{printed_bytes_spell, printed_bytes_read}
use Rattle.ds_script.proofs.printing.print.Goals as goal

pub returns-clause-spells : goal.returns-clause-spells
returns-clause-spells c =
    let s = c.args.scenario.now in
    IfOk-weaker c.print_lines.result (λ text. IsPrinted text.items s)
    (λ text. IsScenario s → length text.items ≤ most_bytes → SpellsText text.items s)
    (λ text printed. printed_bytes_spell s text.items printed) c.print_lines.ensures

pub returns-clause-reads : goal.returns-clause-reads
returns-clause-reads c =
    let s = c.args.scenario.now in
    IfOk-weaker c.print_lines.result (λ text. IsPrinted text.items s)
    (λ text. (bytes : List ℕ) → IsScenarioText bytes s → length text.items ≤ most_bytes → IsScenarioText text.items s)
    (λ text printed bytes. printed_bytes_read s text.items bytes printed) c.print_lines.ensures

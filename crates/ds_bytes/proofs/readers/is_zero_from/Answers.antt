use Rattle.std.proofs.Common.{◌≡◌, ◌-◌, ◌==◌, length, drop, rules, tests, sym, ap, ◌∙◌}
use Rattle.std.proofs.lemmas.Iterator.{YieldsList-from_slice}
use Rattle.std.proofs.lemmas.Iterator.Search.{all_from_yields_List}
use Rattle.std.proofs.lemmas.List.{length-drop, take_rest}
use Rattle.std.specs.List.{list_all}
use Rattle.ds_bytes.specs.Fields.{zeros}
use Rattle.ds_bytes.proofs.Fronts.{all_zero, zero_all}
use Rattle.ds_bytes.proofs.readers.is_zero_from.Goals as goal

pub returns : goal.returns
returns c =
    let rest = drop c.args.from c.args.xs.now in
    let answer : c.all.result ≡ list_all (λ x. x == 0) rest =
    all_from_yields_List (λ x. x == 0) _ _ c.all.result c.all.ensures.ran (YieldsList-from_slice rest (c.iter.ensures.rest ∙ take_rest c.args.xs.now c.args.from)) (λ x b q k. search (rules, tests)) in
    let len : length rest ≡ length c.args.xs.now - c.args.from = length-drop c.args.from c.args.xs.now in
    (λ h. all_zero rest (sym answer ∙ h) ∙ ap zeros len, λ h. answer ∙ ap (list_all (λ x. x == 0)) h ∙ zero_all (length c.args.xs.now - c.args.from))

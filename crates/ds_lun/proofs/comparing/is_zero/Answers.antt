use Rattle.std.proofs.Common.{◌≡◌, ◌==◌, length, rules, tests, arith, sym, ◌∙◌}
use Rattle.std.proofs.lemmas.Iterator.{YieldsList-from_slice}
use Rattle.std.proofs.lemmas.Iterator.Search.{all_from_yields_List}
use Rattle.std.specs.List.{list_all}
use Rattle.ds_lun.proofs.KeptSectors.{zero_from_bytes}
use Rattle.ds_lun.proofs.comparing.is_zero.Goals as goal

pub returns : goal.returns
returns c zeros =
    let answer : c.all.result ≡ list_all (λ x. x == 0) c.args.sector.now.bytes =
    all_from_yields_List (λ x. x == 0) _ _ c.all.result c.all.ensures.ran (YieldsList-from_slice c.args.sector.now.bytes c.iter.ensures.rest) (λ x b q k. search (rules, tests)) in
    let long : length c.args.sector.now.bytes ≡ 512 = omega arith in
    zero_from_bytes c.args.sector.now long (sym answer ∙ zeros)

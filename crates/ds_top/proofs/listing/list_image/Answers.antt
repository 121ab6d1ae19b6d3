use Rattle.std.proofs.Common.{◌≡◌, [], length, sym, subst, ◌∙◌, arith}
use Rattle.std.proofs.lemmas.Bool.Decides.{nat_tests}
use Rattle.ds_top.specs.Runs.{StandVolume}
use Rattle.ds_top.proofs.CheckLaws.{stands_clean, none_left}
use Rattle.ds_top.proofs.listing.list_image.Goals as goal

pub list_volume-requires : goal.list_volume-requires
list_volume-requires c =
    let empty : length c.findings.result.now ≡ 0 = grind (arith, nat_tests) in
    let none : c.in-Ok.report ≡ [] = sym c.findings.ensures ∙ none_left c.findings.result.now empty in
    subst StandVolume (sym c.as_slice.ensures.value) (stands_clean c.args.image.now.sectors.items c.args.image.now.left_over c.in-Ok.report none c.in-Ok.ensures)

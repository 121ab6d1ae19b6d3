use Rattle.std.proofs.Common.{◌≡◌, ℕ, List, length, sym, subst, ◌∙◌, arith}
use Rattle.ds_base.specs.declared.sectors.Sector.{Sector}
use Rattle.ds_top.specs.declared.outcome.Why.{Why}
use Rattle.ds_top.specs.declared.outcome.Why.TheVariants.{BadImage}
use Rattle.ds_top.specs.Runs.{IsRefusedOfImage, AreFound}
use Rattle.ds_top.proofs.CheckLaws.{are_found, behind_refused, check_refused}
use Rattle.ds_top.proofs.checking.find_all.Goals as goal

pub returns-then-image-gt0 : goal.returns-then-image-gt0
returns-then-image-gt0 c =
    let sectors : List Sector = c.as_slice.result.now in
    let left_over = c.args.image.now.left_over in
    let count : length sectors ≡ c.len.result = c.as_slice.ensures.len ∙ sym c.len.ensures in
    subst (λ (list : List Sector). IsRefusedOfImage list left_over (BadImage c.len.result)) c.as_slice.ensures.value
    (subst (λ (n : ℕ). IsRefusedOfImage sectors left_over (BadImage n)) count
    (behind_refused sectors left_over c.in-Ok.report (omega arith) c.in-Ok.ensures.findings c.in-Ok.ensures.only))

pub returns-else-image-gt0 : goal.returns-else-image-gt0
returns-else-image-gt0 c =
    let sectors : List Sector = c.as_slice.result.now in
    let left_over = c.args.image.now.left_over in
    subst (λ (list : List Sector). AreFound list left_over c.in-Ok.report) c.as_slice.ensures.value
    (are_found sectors left_over c.in-Ok.report (omega arith) c.in-Ok.ensures.findings c.in-Ok.ensures.only c.in-Ok.ensures.sound)

pub returns-in-Err : goal.returns-in-Err
returns-in-Err c =
    let sectors : List Sector = c.as_slice.result.now in
    let left_over = c.args.image.now.left_over in
    subst (λ (list : List Sector). IsRefusedOfImage list left_over c.from.result) c.as_slice.ensures.value
    (subst (λ (w : Why). IsRefusedOfImage sectors left_over w) (sym c.from.ensures)
    (check_refused sectors left_over c.in-Err.fault c.in-Err.ensures.fault c.in-Err.ensures.only))

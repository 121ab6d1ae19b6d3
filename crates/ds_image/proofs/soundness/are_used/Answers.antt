use Rattle.std.proofs.Common.{refl, sym, ◌∙◌}
use Rattle.ds_image_tables.proofs.Ownership.MarkedLists.{same-marks}
use Rattle.ds_image.proofs.soundness.are_used.Goals as goal

pub returns : goal.returns
returns c =
    let same = same-marks _ c.as_slice.result.now c.args.bits.now c.eq.result refl c.eq.ensures in
    let used = c.as_slice.ensures.value ∙ c.in_ok-used.ensures in
    (λ yes. same.0 yes ∙ used, λ alike. same.1 (alike ∙ sym used))

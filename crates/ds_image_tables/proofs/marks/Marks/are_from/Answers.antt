use Rattle.std.proofs.Common.{◌∙◌, sym, ap, min, length, take, drop}
use Rattle.ds_image_tables.proofs.Ownership.MarkedLists.{same-marks, rest-from}
use Rattle.ds_image_tables.proofs.marks.Marks.are_from.Goals as goal

pub returns-then-bits-rest : goal.returns-then-bits-rest
returns-then-bits-rest c =
    let marks = c.deref.ensures.value ∙ c.self.view_is in
    let at = c.min.ensures ∙ ap (min c.args.first) (c.len.ensures ∙ sym c.deref.ensures.len) in
    let n = length c.args.bits.now in
    same-marks _ _ _ _ (rest-from c.deref.result.now c.args.first c.min.result n at ∙ ap (λ s. take n (drop c.args.first s)) marks) c.eq.ensures

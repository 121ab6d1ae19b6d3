use Rattle.std.proofs.Common.{◌∙◌}
use Rattle.ds_image_tables.proofs.Ownership.MarkedLists.{same-marks}
use Rattle.ds_image_tables.proofs.marks.Marks.are.Goals as goal

pub returns : goal.returns
returns c = same-marks _ _ _ _ (c.as_slice.ensures.value ∙ c.self.view_is) c.eq.ensures

use Rattle.ds_image_laws.proofs.MarksByValue.{slots-by_value, headers-by_value}
use Rattle.ds_image_laws.proofs.marks_are_by_value.Goals as goal

pub returns-clause-slots : goal.returns-clause-slots
returns-clause-slots c = slots-by_value

pub returns-clause-headers : goal.returns-clause-headers
returns-clause-headers c = headers-by_value

use Rattle.ds_image_laws.proofs.StoreLaws.{pending-apart, free-stands, step-has_image, guards-stay, seen-stays, objects-stay}
use Rattle.ds_image_laws.proofs.steps_keep.Goals as goal

pub returns-clause-apart : goal.returns-clause-apart
returns-clause-apart c = pending-apart

pub returns-clause-free : goal.returns-clause-free
returns-clause-free c = free-stands

pub returns-clause-image : goal.returns-clause-image
returns-clause-image c = step-has_image

pub returns-clause-guards : goal.returns-clause-guards
returns-clause-guards c = guards-stay

pub returns-clause-seen : goal.returns-clause-seen
returns-clause-seen c = seen-stays

pub returns-clause-objects : goal.returns-clause-objects
returns-clause-objects c = objects-stay

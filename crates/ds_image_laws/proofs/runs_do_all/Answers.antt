use Rattle.ds_image_laws.proofs.StoreLaws.{formatted-has_image, logical-stands, run-does_all, planners-are_right}
use Rattle.ds_image_laws.proofs.runs_do_all.Goals as goal

pub returns-clause-formatted : goal.returns-clause-formatted
returns-clause-formatted c = formatted-has_image

pub returns-clause-logical : goal.returns-clause-logical
returns-clause-logical c = logical-stands

pub returns-clause-run : goal.returns-clause-run
returns-clause-run c = run-does_all

pub returns-clause-planners : goal.returns-clause-planners
returns-clause-planners c = planners-are_right

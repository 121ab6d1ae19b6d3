use Rattle.ds_image_laws.proofs.LaidPairs.{laid-in_any_order, laid-in_place}
use Rattle.ds_image_laws.proofs.OneGuard.{guard-once, guard-of_metadata}
use Rattle.ds_image_laws.proofs.StoreLaws.{alike-by_metadata}
use Rattle.ds_image_laws.proofs.images_are_alike.Goals as goal

pub returns-clause-alike : goal.returns-clause-alike
returns-clause-alike c = alike-by_metadata

pub returns-clause-one_guard : goal.returns-clause-one_guard
returns-clause-one_guard c = λ g look at a b is one two. (guard-once g look at a b is one two, guard-of_metadata g look at a one)

pub returns-clause-any_order : goal.returns-clause-any_order
returns-clause-any_order c = laid-in_any_order

pub returns-clause-in_place : goal.returns-clause-in_place
returns-clause-in_place c = laid-in_place

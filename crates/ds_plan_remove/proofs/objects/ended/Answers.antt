-- The body can be spelled.
use Rattle.ds_plan_remove.proofs.ChangeWalk.{ended-body}
use Rattle.ds_plan_remove.proofs.objects.ended.Goals as goal

pub returns-clause-is_body : goal.returns-clause-is_body
returns-clause-is_body c = ended-body c.args.body.now c.requires

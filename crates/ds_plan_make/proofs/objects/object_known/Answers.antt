-- The new object can be written.
use Rattle.std.proofs.Common.{sym, subst}
use Rattle.ds_plan_make.proofs.NewBodies.{new-is}
use Rattle.ds_plan_make.specs.Objects.{CanBegin, IsNewObject}
use Rattle.ds_plan_make.proofs.objects.object_known.Goals as goal

pub returns-clause-is_new : goal.returns-clause-is_new
returns-clause-is_new c =
    subst (IsNewObject c.args.geom.now) (sym c.new_object.ensures.new)
    (new-is c.args.geom.now c.in_ok-item.item c.in_ok-before.before c.args.kind c.args.name.now c.new_object.ensures.named c.in_ok-item.ensures.is_free
    (subst (λ n. CanBegin n c.in_ok-before.before) c.number_of.ensures c.in_ok-before.ensures.can_begin))

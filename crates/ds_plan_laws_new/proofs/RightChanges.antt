-- What a planner's change owes, from what it leaves and from the guards of its sectors.
use Rattle.std.proofs.Common.{◌≡◌, ℕ, true, false, List, slice_get}
use Rattle.std.specs.Prelude.{All}
use Rattle.ds_base.specs.declared.geometry.Geom.{Geom}
use Rattle.ds_base.specs.declared.names.Key.{Key}
use Rattle.ds_base.specs.declared.sectors.Sector.{Sector}
use Rattle.ds_tree.proofs.Accepted.{not-refused}
use Rattle.ds_tree.specs.Nodes.{FileTree}
use Rattle.ds_tree.specs.Steps.{IsNextLife, has_change, is_refusal}
use Rattle.ds_tree.specs.declared.calls.CallOf.{CallOf}
use Rattle.ds_tree.specs.declared.calls.TreeReply.{TreeReply}
use Rattle.ds_image.specs.Asking.{IsRightChange, targets_of}
use Rattle.ds_image_parts.specs.Logical.{laid_over}
use Rattle.ds_image_parts.specs.Pending.{Pair}
use Rattle.ds_image.specs.SeenValues.{SeenValue, HoldsLock}
use Rattle.ds_image.specs.Guards.{GuardedBy}
use Rattle.ds_plan_laws_new.specs.Making.{Leaves}

pub right-change : (g : Geom) (call : CallOf Key) (seen : SeenValue) (image : List Sector) (t : FileTree) (pairs : List Pair) (reply : TreeReply)
    → is_refusal reply ≡ false → has_change t call ≡ true → IsNextLife t reply
    → Leaves g t call reply (laid_over image pairs)
    → All (GuardedBy g (slice_get image) (HoldsLock seen)) (targets_of pairs)
    → All (GuardedBy g (slice_get (laid_over image pairs)) (HoldsLock seen)) (targets_of pairs)
    → IsRightChange g call seen image t pairs reply
right-change g call seen image t pairs reply good changes next leaves before after = record {
  u = leaves.u;
  stands = leaves.stands;
  does = leaves.does;
  unrefused = not-refused g t call reply leaves.u leaves.does good;
  changes = changes;
  next_life = next;
  before = before;
  after = after;
}

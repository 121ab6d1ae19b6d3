use Rattle.std.proofs.Common.{◌≡◌, length}
use Rattle.ds_image_tables.proofs.Parenthood.WalkingParents.{IsWalk, unseen_count}
use Rattle.ds_image_tables.proofs.parents.walk.Given as goal

abbrev pub invariant-loop-seen : goal.invariant-loop-seen
invariant-loop-seen l = (l.start ≡ length l.leads) × IsWalk l.parents l.leads l.seen l.object

abbrev pub decreases-loop-seen : goal.decreases-loop-seen
decreases-loop-seen l = unseen_count l.seen

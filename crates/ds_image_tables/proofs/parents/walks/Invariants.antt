use Rattle.std.proofs.Common.{◌≡◌, length}
use Rattle.ds_image_tables.specs.ParentWalks.{AreSettled}
use Rattle.ds_image_tables.proofs.parents.walks.Given as goal

-- the walks so far are settled
abbrev pub invariant-loop-start : goal.invariant-loop-start
invariant-loop-start l = (length l.leads.items ≡ l.start) × AreSettled l.parents l.seen l.leads.items

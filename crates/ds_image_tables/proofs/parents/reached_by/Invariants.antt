use Rattle.std.proofs.Common.{◌≡◌, ◌<◌, ℕ, length, Some}
use Rattle.ds_image_tables.specs.ParentWalks.{walk_to, led}
use Rattle.ds_image_tables.proofs.parents.reached_by.Given as goal

-- the objects so far are told
abbrev pub invariant-loop-walk : goal.invariant-loop-walk
invariant-loop-walk l = (length l.reached.items ≡ l.walk-index)
    × ((o w : ℕ) → o < l.walk-index → walk_to l.seen o ≡ Some w → led l.reached.items o ≡ led l.leads w)

-- The sectors so far are below this one.
use Rattle.std.proofs.Common.{◌≡◌, drop}
use Rattle.ds_plan_resize.specs.Ordered.{place_from}
use Rattle.ds_plan_resize.proofs.pages.first_from.Given as goal

abbrev pub invariant-loop-place : goal.invariant-loop-place
invariant-loop-place l = place_from 0 l.at l.pairs ≡ place_from l.place l.at (drop l.place l.pairs)

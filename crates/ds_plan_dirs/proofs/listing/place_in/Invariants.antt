-- All names so far are below the new one.
use Rattle.std.proofs.Common.{◌≡◌, ◌+◌, drop}
use Rattle.std.specs.Prelude.{option_map}
use Rattle.ds_plan_dirs.specs.Pages.{place_in}
use Rattle.ds_plan_dirs.proofs.listing.place_in.Given as goal

abbrev pub invariant-loop-i : goal.invariant-loop-i
invariant-loop-i l = place_in l.names l.name ≡ option_map (λ k. l.i + k) (place_in (drop l.i l.names) l.name)

use Rattle.std.proofs.Common.{◌≡◌}
use Rattle.ds_world.specs.FirstWorlds.{turns_left}
use Rattle.ds_top.proofs.replaying.run_to_end.Given as goal

abbrev pub invariant-loop-world : goal.invariant-loop-world
invariant-loop-world l = l.world.scenario ≡ l.initial.world.scenario

abbrev pub decreases-loop-world : goal.decreases-loop-world
decreases-loop-world l = turns_left l.world

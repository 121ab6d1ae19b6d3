use Rattle.std.proofs.Common.{◌≡◌}
use Rattle.ds_script.proofs.drafts.all_of.Given as goal

abbrev pub invariant-loop-plan : goal.invariant-loop-plan
invariant-loop-plan l = l.items ≡ l.yielded

use Rattle.std.proofs.Common.{◌≡◌, length}
use Rattle.ds_script.specs.Runs.{runs_of}
use Rattle.ds_script.proofs.arming.next_run.Given as goal

abbrev pub invariant-loop-word : goal.invariant-loop-word
invariant-loop-word l = runs_of l.line ≡ runs_of l.rest

abbrev pub decreases-loop-word : goal.decreases-loop-word
decreases-loop-word l = length l.rest

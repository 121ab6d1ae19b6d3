use Rattle.std.proofs.Common.{◌≡◌, drop}
use Rattle.ds_tree.specs.Grammar.{names_of}
use Rattle.ds_script.specs.Faults.{is_among}
use Rattle.ds_script.proofs.fields.is_taken.Given as goal

abbrev pub invariant-loop-plan : goal.invariant-loop-plan
invariant-loop-plan l = is_among l.word (names_of l.hosts) ≡ is_among l.word (names_of (drop l.plan-index l.hosts))

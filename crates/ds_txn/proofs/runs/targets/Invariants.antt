use Rattle.std.proofs.Common.{◌≡◌, map, take}
use Rattle.ds_txn.specs.Changing.{Pair}
use Rattle.ds_txn.proofs.runs.targets.Given as goal

abbrev pub invariant-loop-pair : goal.invariant-loop-pair
invariant-loop-pair l = l.list.items ≡ map (λ (p : Pair). p.0) (take l.pair-index l.pairs)

use Rattle.std.proofs.Common.{arith}
use Rattle.ds_txn.proofs.Targets.{fewer}
use Rattle.ds_txn.proofs.runs.targets.Goals as goal

pub push-requires : goal.push-requires
push-requires c = (omega arith, fewer c.args.pairs.now c.loop-pair.list.items c.loop-pair.pair-index c.loop-pair.invariant c.loop-pair-test.true c.requires)

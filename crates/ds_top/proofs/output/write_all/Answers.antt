use Rattle.std.proofs.lemmas.List.{take_rest}
use Rattle.ds_top.proofs.EdgeLaws.{IsWrittenTo-next}
use Rattle.ds_top.proofs.output.write_all.Goals as goal

pub loop-at-preserved : goal.loop-at-preserved
loop-at-preserved g c =
    let accepted = rw (take_rest c.args.bytes.now c.loop-at.at) at c.in-Took.ensures.accepts in
    IsWrittenTo-next _ _ _ _ _ _ _ _ _ c.loop-at.invariant accepted.1 accepted.2 c.in-Took.ensures.faults

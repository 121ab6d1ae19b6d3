use Rattle.std.proofs.Common.{arith}
use Rattle.ds_script.proofs.Advances.{sum_within}
use Rattle.ds_script.proofs.Answering.{rest_tells}
use Rattle.ds_script.proofs.passing.pass_all.Goals as goal

pub loop-smaller : goal.loop-smaller
loop-smaller c =
    let now = c.pass_round.ensures.keeps in
    omega (arith, c.pass_round.ensures.more c.loop-test.true, sum_within c.args.plans.now c.pass_round.new.passed now.hosts now.passes.within)

pub returns : goal.returns
returns c =
    rest_tells c.args.plans.now c.pass_round.new.passed c.pass_round.ensures.keeps (c.pass_round.ensures.stops c.loop-test.false)
    c.first_left.result c.first_left.ensures

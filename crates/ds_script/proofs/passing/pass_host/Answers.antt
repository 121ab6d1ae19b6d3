use Rattle.std.proofs.Common.{sym, arith}
use Rattle.std.proofs.lemmas.Bool.{false≢true}
use Rattle.ds_script.proofs.Advances.{HasPassed-more, sum_risen}
use Rattle.ds_script.proofs.passing.pass_host.Goals as goal

pub loop-any-preserved : goal.loop-any-preserved
loop-any-preserved c =
    let now = c.loop-any.invariant in
    let free = c.loop-any-test.ensures in
    record {
      keeps = HasPassed-more c.args.plans.now c.loop-any.passed c.args.host c.requires.within now.keeps free.0 free.1;
      none = λ e. absurd (false≢true (sym e));
      some = λ e. sum_risen c.loop-any.any c.args.passed.now c.loop-any.passed c.args.host
          (omega (arith, c.requires.within, now.keeps.hosts)) now.none now.some;
    }

use Rattle.std.proofs.Common.{sym, ◌∙◌}
use Rattle.ds_lock.proofs.Going.{no-slot, slot-now}
use Rattle.ds_lock.proofs.steps.Wanted.breaker_read.Goals as goal

pub returns-in-None-clause-goes : goal.returns-in-None-clause-goes
returns-in-None-clause-goes c = λ notes pass seen.
    no-slot c.args.self.now notes c.args.now c.args.now pass c.args.sector.now c.slot_damaged.result c.args.by c.requires.within
    c.slot_damaged.ensures (sym c.decode.ensures.value ∙ c.in-None.is)

pub returns-in-Some-clause-goes : goal.returns-in-Some-clause-goes
returns-in-Some-clause-goes c = λ notes pass seen.
    c.breaker_shown.ensures.goes notes c.args.now _ c.args.by (record {
      read = slot-now c.args.self.now notes c.args.now c.args.now pass c.args.sector.now c.args.by c.in-Some.breaker c.requires.within
          ((c.decode.ensures.spelled c.in-Some.breaker).0 c.in-Some.is);
      owned = seen.0;
      breaking = seen.1;
      other = seen.3;
    })

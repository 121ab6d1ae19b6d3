use Rattle.std.proofs.Common.{◌≡◌, subst}
use Rattle.ds_base.specs.declared.commands.Next.TheVariants as nexts
use Rattle.ds_lock.specs.Stages.{GoesBy, HasSeen, LockValue, due, notes_after, with_note}
use Rattle.ds_lock.specs.declared.ends.LockEnd.TheVariants as ends
use Rattle.ds_lock.specs.declared.steps.Went.TheVariants as went
use Rattle.ds_lock.proofs.Answering.{breaker-goes, header-goes, missed-goes, owner-goes, taken-goes}
use Rattle.ds_lock.proofs.runs.LockRun.went.Goals as goal

pub returns-in-Header-Got-clause-goes : goal.returns-in-Header-Got-clause-goes
returns-in-Header-Got-clause-goes c = λ notes pass command remembers.
    subst (λ (run : LockValue). due run ≡ nexts.Send command → HasSeen run.wanted run.stage pass
    → GoesBy run.wanted (notes_after run c.args.response.now c.args.now notes) c.args.now
    (record { command = command; response = c.args.response.now; tick = c.args.now }) pass c.header_read.result)
    c.self.view_is
    (header-goes c.self.inside.wanted c.self.inside.stage c.args.response.now command notes c.args.now pass c.header_read.result
    c.in-Header-Got.sector
    c.in-Header-Got.is-0 c.in-Header-Got.is-1 (c.header_read.ensures.goes notes c.args.now))

pub returns-in-Owner-Got-clause-goes : goal.returns-in-Owner-Got-clause-goes
returns-in-Owner-Got-clause-goes c = λ notes pass command remembers.
    subst (λ (run : LockValue). due run ≡ nexts.Send command → HasSeen run.wanted run.stage pass
    → GoesBy run.wanted (notes_after run c.args.response.now c.args.now notes) c.args.now
    (record { command = command; response = c.args.response.now; tick = c.args.now }) pass c.owner_read.result)
    c.self.view_is
    (owner-goes c.self.inside.wanted c.self.inside.stage c.args.response.now command notes c.args.now pass c.owner_read.result
    c.in-Owner-Got.sector
    c.in-Owner-Got.header c.in-Owner-Got.owner c.in-Owner-Got.is-0 c.in-Owner-Got.is-1 (c.owner_read.ensures.goes notes pass remembers))

pub returns-in-Breaker-Got-clause-goes : goal.returns-in-Breaker-Got-clause-goes
returns-in-Breaker-Got-clause-goes c = λ notes pass command remembers.
    subst (λ (run : LockValue). due run ≡ nexts.Send command → HasSeen run.wanted run.stage pass
    → GoesBy run.wanted (notes_after run c.args.response.now c.args.now notes) c.args.now
    (record { command = command; response = c.args.response.now; tick = c.args.now }) pass c.breaker_read.result)
    c.self.view_is
    (breaker-goes c.self.inside.wanted c.self.inside.stage c.args.response.now command notes c.args.now pass c.breaker_read.result
    c.in-Breaker-Got.sector
    c.in-Breaker-Got.header c.in-Breaker-Got.slot c.in-Breaker-Got.by c.in-Breaker-Got.by_generation c.in-Breaker-Got.image
    c.in-Breaker-Got.is-0 c.in-Breaker-Got.is-1
    (c.breaker_read.ensures.goes (with_note c.self.inside.wanted c.in-Breaker-Got.by c.in-Breaker-Got.sector c.args.now notes) pass))

pub returns-in-Taking-Done-clause-goes : goal.returns-in-Taking-Done-clause-goes
returns-in-Taking-Done-clause-goes c = λ notes pass command remembers.
    subst (λ (run : LockValue). due run ≡ nexts.Send command → HasSeen run.wanted run.stage pass
    → GoesBy run.wanted (notes_after run c.args.response.now c.args.now notes) c.args.now
    (record { command = command; response = c.args.response.now; tick = c.args.now }) pass (went.Ended ends.Got))
    c.self.view_is
    (taken-goes c.self.inside.wanted c.self.inside.stage c.args.response.now command notes c.args.now pass c.in-Taking-Done.header-0
    c.in-Taking-Done.is-0 c.in-Taking-Done.is-1)

pub returns-in-Taking-Miscompare-clause-goes : goal.returns-in-Taking-Miscompare-clause-goes
returns-in-Taking-Miscompare-clause-goes c = λ notes pass command remembers.
    subst (λ (run : LockValue). due run ≡ nexts.Send command → HasSeen run.wanted run.stage pass
    → GoesBy run.wanted (notes_after run c.args.response.now c.args.now notes) c.args.now
    (record { command = command; response = c.args.response.now; tick = c.args.now }) pass went.Missed)
    c.self.view_is
    (missed-goes c.self.inside.wanted c.self.inside.stage c.args.response.now command notes c.args.now pass
    c.in-Taking-Miscompare.header-0
    c.in-Taking-Miscompare.offset-1 c.in-Taking-Miscompare.is-0 c.in-Taking-Miscompare.is-1)

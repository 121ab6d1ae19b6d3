use Rattle.std.proofs.Common.{◌++◌, subst, sym, ap, ◌∙◌}
use Rattle.ds_lock.specs.Stages.{Agrees, HasSeen, LockValue}
use Rattle.ds_lock.specs.declared.steps.Stage.TheVariants as stages
use Rattle.ds_lock.proofs.Passes.{freed-agrees, missed-leads, one-header}
use Rattle.ds_lock.proofs.runs.LockRun.resume.Goals as goal

pub returns-then-not-freed-clause-missed : goal.returns-then-not-freed-clause-missed
returns-then-not-freed-clause-missed c = λ not_freed slot image xs broke awaits agrees miss.
    missed-leads c.args.self.now.wanted slot image xs agrees.pass broke c.args.self.now.missed agrees.is_pass awaits.0 c.miss.new.self
    c.miss.result
    c.miss.ensures.wanted c.miss.ensures.first c.miss.ensures.second (subst (λ v. HasSeen c.args.self.now.wanted v agrees.pass) awaits.1
    agrees.seen) miss

pub returns-in-Broken-clause-freed : goal.returns-in-Broken-clause-freed
returns-in-Broken-clause-freed c = λ is_freed slot image xs broke awaits agrees freed. (
  subst (λ (run : LockValue). Agrees (record { wanted = run.wanted; missed = run.missed; stage = stages.Taking c.in-Broken.header }) (broke
      ++ xs)) (sym c.self.view_is)
      (subst (λ h. Agrees (record { wanted = c.args.self.now.wanted; missed = c.args.self.now.missed; stage = stages.Taking h }) (broke
      ++ xs))
      (one-header c.args.self.now.stage awaits.0 c.in-Broken.header slot c.in-Broken.slot image c.in-Broken.image awaits.1
      (sym (ap (λ (run : LockValue). run.stage) c.self.view_is) ∙ c.in-Broken.is))
      (freed-agrees c.args.self.now.wanted slot image xs agrees.pass broke c.args.self.now.missed agrees.is_pass awaits.0
      (subst (λ v. HasSeen c.args.self.now.wanted v agrees.pass) awaits.1 agrees.seen) freed)),
  tt,
)

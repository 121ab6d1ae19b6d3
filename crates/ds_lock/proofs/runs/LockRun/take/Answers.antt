use Rattle.std.proofs.Common.{◌∷◌, subst, sym}
use Rattle.ds_base.specs.Exchanges.{Exchange}
use Rattle.ds_lock.specs.Stages.{Agrees, LockValue, StandsAfter, Told, notes_after}
use Rattle.ds_lock.specs.declared.steps.Stage.TheVariants as stages
use Rattle.ds_lock.proofs.Passes.{breaks-leads, ended-leads, miss-leads, on-leads}
use Rattle.ds_lock.proofs.runs.LockRun.take.Goals as goal

pub returns-in-On-clause-leads : goal.returns-in-On-clause-leads
returns-in-On-clause-leads c = λ notes xs command remembers due agrees.
    let x : Exchange = record { command = command; response = c.args.response.now; tick = c.args.now } in (
      subst (λ (run : LockValue). Agrees (record { wanted = run.wanted; missed = run.missed; stage = c.in-On.stage }) (x
          ∷ xs)) (sym c.self.view_is)
          (on-leads c.args.self.now.wanted notes c.args.now x xs agrees.pass c.args.self.now.missed c.in-On.stage agrees.is_pass
          (c.in-On.ensures.goes notes agrees.pass command remembers due agrees.seen)),
      c.in-On.ensures.fits.1,
    )

pub returns-in-Ended-clause-leads : goal.returns-in-Ended-clause-leads
returns-in-Ended-clause-leads c = λ notes xs command remembers due agrees.
    let x : Exchange = record { command = command; response = c.args.response.now; tick = c.args.now } in
    subst (λ (run : LockValue). Told (record { wanted = run.wanted; missed = run.missed; stage = stages.Over })
    (notes_after c.args.self.now c.args.response.now c.args.now notes)
    c.args.now (x ∷ xs) c.in-Ended.end
    × StandsAfter (record { wanted = run.wanted; missed = run.missed; stage = stages.Over }) (x ∷ xs) c.in-Ended.end) (sym c.self.view_is)
    (ended-leads c.args.self.now.wanted (notes_after c.args.self.now c.args.response.now c.args.now notes) c.args.now x xs agrees.pass
    c.args.self.now.missed c.in-Ended.end
    agrees.is_pass c.in-Ended.ensures.fits (c.in-Ended.ensures.goes notes agrees.pass command remembers due agrees.seen))

pub returns-in-Breaks-clause-leads : goal.returns-in-Breaks-clause-leads
returns-in-Breaks-clause-leads c = λ notes xs command remembers due agrees.
    let x : Exchange = record { command = command; response = c.args.response.now; tick = c.args.now } in
    breaks-leads c.args.self.now.wanted (notes_after c.args.self.now c.args.response.now c.args.now notes) c.args.now x xs agrees.pass
    c.args.self.now.missed
    c.in-Breaks.header c.in-Breaks.slot c.in-Breaks.image c.needs_break.new.self c.needs_break.result c.needs_break.ensures.wanted
    c.needs_break.ensures.missed
    c.needs_break.ensures.stage c.needs_break.ensures.needs agrees.is_pass (c.in-Breaks.ensures.goes notes agrees.pass command remembers
    due agrees.seen)

pub returns-in-Missed-clause-leads : goal.returns-in-Missed-clause-leads
returns-in-Missed-clause-leads c = λ notes xs command remembers due agrees.
    let x : Exchange = record { command = command; response = c.args.response.now; tick = c.args.now } in
    miss-leads c.args.self.now.wanted (notes_after c.args.self.now c.args.response.now c.args.now notes) c.args.now x xs agrees.pass
    c.args.self.now.missed
    c.miss.new.self c.miss.result c.miss.ensures.wanted c.miss.ensures.first c.miss.ensures.second agrees.is_pass
    (c.in-Missed.ensures.goes notes agrees.pass command remembers due agrees.seen)

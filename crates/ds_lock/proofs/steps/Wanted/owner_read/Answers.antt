use Rattle.std.proofs.Common.{sym, subst, ◌∙◌, IsTrue}
use Rattle.std.specs.Prelude.{◌↔◌}
use Rattle.ds_watch.specs.Notes.{IsStale}
use Rattle.ds_lock.specs.Stages.{with_note}
use Rattle.ds_lock.proofs.Going.{no-slot, same-image, slot-now}
use Rattle.ds_lock.proofs.Shown.{owned-past}
use Rattle.ds_lock.proofs.steps.Wanted.owner_read.Goals as goal

pub returns-in-None-clause-goes : goal.returns-in-None-clause-goes
returns-in-None-clause-goes c = λ notes pass remembers owned earlier.
    no-slot c.args.self.now _ c.args.now c.args.now pass c.args.sector.now c.slot_damaged.result c.args.owner.now.slot c.requires.within
    c.slot_damaged.ensures (sym c.decode.ensures.value ∙ c.in-None.is)

pub returns-in-Some-clause-goes : goal.returns-in-Some-clause-goes
returns-in-Some-clause-goes c = λ notes pass remembers owned earlier.
    let spelled = (c.decode.ensures.spelled c.in-Some.image).0 c.in-Some.is in
    c.owner_shown.ensures.goes (with_note c.args.self.now c.args.owner.now.slot c.args.sector.now c.args.now notes) c.args.now _
    (owned-past c.args.self.now pass c.args.now c.args.owner.now.slot c.args.sector.now c.requires.within c.args.header.now
    c.args.owner.now owned) earlier
    (slot-now c.args.self.now notes c.args.now c.args.now pass c.args.sector.now c.args.owner.now.slot c.in-Some.image c.requires.within
    spelled)
    (λ other. subst (λ s. IsTrue c.note-stale.result ↔ IsStale (with_note c.args.self.now c.args.owner.now.slot c.args.sector.now
    c.args.now notes) c.args.owner.now.slot s c.args.now)
    (same-image c.args.owner.now.slot c.args.sector.now c.in-Some.image spelled.1) (c.note-stale.ensures.stale notes remembers other))

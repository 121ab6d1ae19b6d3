use Rattle.std.proofs.Common.{◌∙◌}
use Rattle.ds_marks.proofs.Slots.{names_slot}
use Rattle.ds_marks.proofs.slot.Slot.named.Goals as goal

pub returns-clause-named : goal.returns-clause-named
returns-clause-named c = λ number s below h e.
    c.slot.ensures ∙ names_slot number c.args.sector.now.bytes c.read.result s below c.read.ensures.fits h c.read.ensures.parts e

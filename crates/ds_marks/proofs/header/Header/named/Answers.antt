use Rattle.std.proofs.Common.{◌∙◌}
use Rattle.ds_marks.proofs.Headers.{names_header}
use Rattle.ds_marks.proofs.header.Header.named.Goals as goal

pub returns-clause-named : goal.returns-clause-named
returns-clause-named c = λ h is e.
    c.header.ensures ∙ names_header c.args.sector.now.bytes c.read.result h c.read.ensures.fits is c.read.ensures.parts e

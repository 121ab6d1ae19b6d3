use Rattle.std.proofs.Common.{◌∙◌}
use Rattle.ds_fd.proofs.Named.{names_body}
use Rattle.ds_fd.proofs.body.Body.named.Goals as goal

pub returns-clause-named : goal.returns-clause-named
returns-clause-named c = λ b h e.
    c.body.ensures ∙ names_body c.args.sector.now.bytes c.read.result b c.read.ensures.fits h.widths c.read.ensures.parts e

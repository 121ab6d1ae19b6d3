use Rattle.ds_jrnl.proofs.Indexes.{names_index, some_named}
use Rattle.ds_jrnl.proofs.index.Index.named.Goals as goal

pub returns-clause-named : goal.returns-clause-named
returns-clause-named c = λ x h e.
    some_named c.index.result c.read.result x c.index.ensures.fits c.index.ensures.value (names_index c.args.sector.now.bytes c.read.result x c.read.ensures.fits h c.read.ensures.parts e)

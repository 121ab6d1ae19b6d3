-- An entry above the name is put into the page.
use Rattle.std.proofs.Common.{sym, ◌∙◌}
use Rattle.ds_plan_dirs.proofs.PagesMade.{page_more, page_same}
use Rattle.ds_plan_dirs.proofs.listing.add.Goals as goal

pub returns-then-is_above : goal.returns-then-is_above
returns-then-is_above c es are =
    c.put.ensures ∙ page_more c.args.after.now es c.args.entry.now c.args.names.now.items (sym c.is_above.ensures ∙ c.if-is_above.true) are

pub returns-else-is_above : goal.returns-else-is_above
returns-else-is_above c es are =
    page_same c.args.after.now es c.args.entry.now c.args.names.now.items (sym c.is_above.ensures ∙ c.if-is_above.false) are

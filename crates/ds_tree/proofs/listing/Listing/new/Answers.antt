use Rattle.ds_tree.proofs.EntryLists.{empty-of_entries}
use Rattle.ds_tree.proofs.listing.Listing.new.Goals as goal

pub returns : goal.returns
returns c = empty-of_entries c.new.result.entries c.new.ensures.empty

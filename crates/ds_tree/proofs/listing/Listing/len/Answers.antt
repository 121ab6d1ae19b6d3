use Rattle.std.proofs.Common.{sym, ◌∙◌, ap}
use Rattle.std.specs.FinMap as maps
use Rattle.ds_tree.proofs.EntryLists.{len-of_entries}
use Rattle.ds_tree.proofs.listing.Listing.len.Goals as goal

pub returns : goal.returns
returns c = c.len.ensures.len ∙ sym (len-of_entries c.self.inside.map.entries c.self.invariant) ∙ ap maps.len c.self.view_is

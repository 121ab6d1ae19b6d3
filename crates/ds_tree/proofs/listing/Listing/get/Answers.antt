use Rattle.std.proofs.Common.{sym, ◌∙◌, ap}
use Rattle.std.specs.FinMap as maps
use Rattle.ds_tree.proofs.EntryLists.{get-of_entries}
use Rattle.ds_tree.proofs.listing.Listing.get.Goals as goal

pub returns : goal.returns
returns c = c.copied.ensures ∙ c.get.ensures.value ∙ sym (get-of_entries c.self.inside.map.entries c.args.name.now c.self.invariant)
    ∙ ap (λ m. maps.get m c.args.name.now) c.self.view_is

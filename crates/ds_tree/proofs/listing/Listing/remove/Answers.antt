use Rattle.std.proofs.Common.{◌∙◌, ap}
use Rattle.std.specs.FinMap as maps
use Rattle.ds_tree.proofs.EntryLists.{cmp, is_sorted-of, remove-of_entries}
use Rattle.ds_tree.proofs.listing.Listing.remove.Goals as goal

pub invariant_of-self : goal.invariant_of-self
invariant_of-self c = is_sorted-of cmp c.remove.new.self.entries c.remove.ensures.ordered

pub returns : goal.returns
returns c =
    remove-of_entries c.self.inside.map.entries c.remove.new.self.entries c.args.name.now c.self.invariant
    (is_sorted-of cmp _ c.remove.ensures.ordered) c.remove.ensures.updates.0
    ∙ ap (λ m. maps.remove m c.args.name.now) c.self.view_is

use Rattle.std.proofs.Common.{◌∙◌, ap}
use Rattle.std.specs.Prelude.{Some, None}
use Rattle.ds_tree.specs.Steps.{entries_above}
use Rattle.ds_tree.proofs.EntryLists.{above-of_entries, all-of_entries}
use Rattle.ds_tree.proofs.listing.Listing.above.Goals as goal

pub returns-in_default : goal.returns-in_default
returns-in_default c = rw c.in_default.is (c.range.ensures.between tt ∙ all-of_entries c.self.inside.map.entries c.self.invariant
    ∙ ap (λ m. entries_above m None) c.self.view_is)

pub returns : goal.returns
returns c = rw c.in-Some.is (c.range-2.ensures.between tt ∙ above-of_entries c.self.inside.map.entries c.in-Some.name.now c.self.invariant
    ∙ ap (λ m. entries_above m (Some c.in-Some.name.now)) c.self.view_is)

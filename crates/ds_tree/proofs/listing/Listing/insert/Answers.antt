use Rattle.std.proofs.Common.{◌∙◌, ap}
use Rattle.std.specs.FinMap as maps
use Rattle.ds_tree.proofs.EntryLists.{cmp, is_sorted-of, insert-of_entries}
use Rattle.ds_tree.proofs.listing.Listing.insert.Goals as goal
use Rattle.ds_tree.proofs.listing.Listing.insert.Goals.{in-Ok, in-Err}

pub invariant_of-self : goal.invariant_of-self
invariant_of-self c = is_sorted-of cmp c.insert.new.self.entries c.insert.ensures.ordered

pub returns-clause-ok : goal.returns-clause-ok
returns-clause-ok c = elim c.match-insert.branch [
  | in-Ok w ↦ rw w.result-is (
      insert-of_entries c.self.inside.map.entries c.insert.new.self.entries c.args.name c.args.object c.self.invariant
      (is_sorted-of cmp _ c.insert.ensures.ordered) w.in-Ok.ensures.updates.0
      ∙ ap (λ m. maps.insert m c.args.name c.args.object) c.self.view_is)
  | in-Err w ↦ rw w.result-is tt
]

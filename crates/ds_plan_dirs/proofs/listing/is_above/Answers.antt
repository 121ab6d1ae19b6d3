-- A name is above another where the other is less.
use Rattle.std.proofs.Common.{sym, ap, ◌∙◌}
use Rattle.std.specs.Ordering.{is_lt}
use Rattle.ds_tree.specs.Steps.{is_above}
use Rattle.ds_plan_dirs.proofs.listing.is_above.Goals as goal

pub returns-in-Some : goal.returns-in-Some
returns-in-Some c = c.is_lt.ensures ∙ ap is_lt c.cmp.ensures ∙ sym (ap (λ above. is_above above c.args.name.now) c.in-Some.is)

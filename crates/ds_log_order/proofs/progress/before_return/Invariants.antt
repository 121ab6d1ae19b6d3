use Rattle.std.proofs.Common.{◌≡◌, ℕ, ◌<◌, get_or, false}
use Rattle.ds_tree.specs.declared.scenarios.Directive.{Directive}
use Rattle.ds_log_order.specs.Progress.{is_return}
use Rattle.ds_log_order.proofs.progress.before_return.Given as goal

abbrev pub invariant-loop-i : goal.invariant-loop-i
invariant-loop-i l = (k : ℕ) (d : Directive) → k < l.i → is_return (get_or l.list k d) ≡ false

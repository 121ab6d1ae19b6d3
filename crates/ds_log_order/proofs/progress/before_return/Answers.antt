use Rattle.std.proofs.Common.{◌≤◌, length, arith, ap, sym, ◌∙◌}
use Rattle.std.proofs.lemmas.List.Sums.{position_or_len_is}
use Rattle.ds_tree.specs.declared.scenarios.Directive.TheVariants as directives
use Rattle.ds_log_order.specs.Progress.{is_return}
use Rattle.ds_log_order.proofs.progress.before_return.Goals as goal

pub returns-then-is_return-clause-is : goal.returns-then-is_return-clause-is
returns-then-is_return-clause-is c =
    let d = c.index-list-i.result in
    sym (position_or_len_is is_return c.args.list.now c.loop-i.i d (omega arith) (λ k less. c.loop-i.invariant k d less)
    (λ less. ap is_return (sym c.index-list-i.is) ∙ (sym c.is_return.ensures ∙ c.if-is_return.true)))

pub returns-clause-is : goal.returns-clause-is
returns-clause-is c =
    let within : length c.args.list.now ≤ c.loop-i.i = omega arith in
    sym (position_or_len_is is_return c.args.list.now (length c.args.list.now) directives.Die (omega arith)
    (λ k less. c.loop-i.invariant k directives.Die (omega arith)) (λ less. absurd (omega arith)))

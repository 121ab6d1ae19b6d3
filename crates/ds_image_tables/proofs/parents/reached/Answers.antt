use Rattle.std.proofs.Common.{◌≡◌, ap, ◌∙◌, length}
use Rattle.std.proofs.lemmas.List.{take_at}
use Rattle.ds_image_tables.specs.ParentWalks.{walk_to, led}
use Rattle.ds_image_tables.proofs.Parenthood.WalkingParents.{reached-all, IfOk-both}
use Rattle.ds_image_tables.proofs.parents.reached.Goals as goal

pub returns : goal.returns
returns c =
    let seen : c.deref.result.now ≡ c.walks.new.seen = c.deref.ensures.value
    ∙ take_at c.walks.new.seen _ c.in-Ok.seen.len (c.walks.auto.seen ∙ c.deref_mut.ensures.len) in
    IfOk-both c.reached_by.result _ _ _
    (λ reached count exact. reached-all c.args.parents.now c.walks.new.seen c.in_ok-leads.leads.items reached.items
    c.in_ok-leads.ensures.settled c.in_ok-leads.ensures.count
    (count ∙ ap length seen)
    (λ o w at. exact o w (ap (λ s. walk_to s o) seen ∙ at) ∙ ap (λ l. led l w) c.deref-2.ensures.value))
    c.reached_by.ensures.count c.reached_by.ensures.exact

use Rattle.std.proofs.Common.{◌≡◌, Some, set, length, true, [], ◌∷◌, ◌++◌, sym, ap, ◌∙◌, subst}
use Rattle.std.specs.Prelude.{is_ok}
use Rattle.std.proofs.lemmas.Bool.{cond-true}
use Rattle.ds_image_tables.specs.ParentWalks.{AreSettled}
use Rattle.ds_image_tables.proofs.Parenthood.WalkingParents.{settled-first}
use Rattle.ds_image_tables.proofs.parents.walks.Goals as goal

pub loop-start-init : goal.loop-start-init
loop-start-init c =
    let pushed : c.push.new.self.items ≡ true ∷ [] =
    c.push.ensures.items ∙ cond-true _ _ _ (ap is_ok c.in_ok-push.was) ∙ ap (λ l. l ++ true ∷ []) c.new-leads.ensures.items in (
      ap length pushed,
      subst (AreSettled c.args.parents.now (set c.args.seen.now 0 (Some 0))) (sym pushed)
          (settled-first c.args.parents.now c.args.seen.now c.requires.count c.requires.some c.requires.unseen),
    )

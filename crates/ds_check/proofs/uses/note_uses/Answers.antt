-- One more use is noted.
use Rattle.std.proofs.Common.{◌∙◌, ◌++◌, take, subst}
use Rattle.std.proofs.lemmas.List.{take_all}
use Rattle.ds_image_tables.specs.Users.{uses_by, KnowsUsers}
use Rattle.ds_check.proofs.ItemUsers.{uses-more}
use Rattle.ds_check.proofs.uses.note_uses.Goals as goal

pub loop-item-preserved : goal.loop-item-preserved
loop-item-preserved c = record {
  count = c.note_use.ensures.count ∙ c.loop-item.invariant.count;
  knows = λ uses knows. uses-more c.note_use.new.table uses c.args.object c.args.items.now c.loop-item.item-index c.loop-item-test.true
      (c.note_use.ensures.knows (uses ++ uses_by c.args.object (take c.loop-item.item-index c.args.items.now))
      (c.loop-item.invariant.knows uses knows));
}

pub returns-clause-knows : goal.returns-clause-knows
returns-clause-knows c = λ uses knows.
    subst (λ items. KnowsUsers c.loop-item.table (uses ++ uses_by c.args.object items))
    (take_all c.loop-item.item-index c.args.items.now c.loop-item-test.false)
    (c.loop-item.invariant.knows uses knows)

-- What is written can be spelled, and is what is known.
use Rattle.std.proofs.Common.{◌≡◌, sym, ap, subst, ◌∙◌}
use Rattle.std.specs.Prelude.{Result, Ok}
use Rattle.ds_image_parts.specs.Readings.{ReadsParts}
use Rattle.ds_image.specs.SeenValues.{look_of}
use Rattle.ds_plan_base.specs.Redos.{body_pair, sub_pair}
use Rattle.ds_plan_base.specs.declared.stops.Stop.{Stop}
use Rattle.ds_plan_remove.specs.Answers.{RemoveValue, change_known}
use Rattle.ds_plan_remove.proofs.Removed.{removed-is, written-is}
use Rattle.ds_plan_remove.specs.declared.removing.Removing.{Removing}
use Rattle.ds_plan_remove.proofs.removing.Remove.change_known.Goals as goal

pub returns-clause-answer : goal.returns-clause-answer
returns-clause-answer c p reads =
    subst
    (λ (own : RemoveValue). ReadsParts own.geom (look_of c.args.seen.now) p
    → ◌≡◌ {A = Result Removing Stop} (Ok (record { redo = record { pairs = c.push-2.new.self }; key = c.in_ok-found.found.key })) (change_known own.geom c.args.seen.now p own.dir own.name own.kind))
    c.self.view_is
    (λ reads.
    removed-is c.self.inside.geom c.args.seen.now p c.self.inside.dir c.self.inside.name c.self.inside.kind c.in_ok-dir.dir c.in_ok-found.found c.in_ok-body.body c.in_ok-redo.redo (record { pairs = c.push-2.new.self })
    (sym (c.dir_of_key.ensures.answer p reads) ∙ c.in_ok-dir.was) (sym (c.entry_known.ensures.answer p reads) ∙ c.in_ok-found.was)
    (sym (c.body_named.ensures.answer p reads) ∙ c.in_ok-body.was) (sym (c.object_given.ensures.answer p reads) ∙ c.in_ok-redo.was)
    (written-is c.self.inside.geom c.in_ok-redo.redo c.in_ok-body.body c.in_ok-found.found c.body_pair.result c.sub_pair.result c.push.new.self.items c.push-2.new.self.items
    (c.body_pair.ensures ∙ ap (body_pair c.self.inside.geom) c.ended.ensures.ended) (c.sub_pair.ensures ∙ ap (sub_pair c.self.inside.geom c.in_ok-found.found.sub) c.block_emptied.ensures.emptied) c.push.ensures.items c.push-2.ensures.items))
    reads

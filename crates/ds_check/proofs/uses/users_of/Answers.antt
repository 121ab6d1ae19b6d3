-- The uses by one more object are noted.
use Rattle.std.proofs.Common.{◌≡◌, ℕ, ◌++◌, ap, subst, ◌∙◌}
use Rattle.std.specs.List.{flat_map, range_with_len}
use Rattle.ds_image_parts.specs.Parts.{part_at}
use Rattle.ds_image_tables.specs.Users.{uses_by, KnowsUsers}
use Rattle.ds_check.specs.Uses.{items_by}
use Rattle.ds_check.proofs.ItemUsers.{objects-more}
use Rattle.ds_check.proofs.uses.users_of.Goals as goal

pub loop-object-preserved : goal.loop-object-preserved
loop-object-preserved c =
    let p = c.args.parts.now in
    let o = c.loop-object.object in
    let each = λ (n : ℕ). uses_by n (items_by p c.args.kind (part_at p.bodies n)) in
    let items : c.deref.result.now ≡ items_by p c.args.kind (part_at p.bodies o) =
    c.deref.ensures.value ∙ c.in_ok-items.ensures ∙ ap (items_by p c.args.kind) c.body_at.ensures in
    record {
      count = c.note_uses.ensures.count ∙ c.loop-object.invariant.count;
      knows = objects-more c.note_uses.new.table each o (
          subst (λ xs. KnowsUsers c.note_uses.new.table (flat_map each (range_with_len 0 o) ++ uses_by o xs)) items
          (c.note_uses.ensures.knows (flat_map each (range_with_len 0 o)) c.loop-object.invariant.knows));
    }

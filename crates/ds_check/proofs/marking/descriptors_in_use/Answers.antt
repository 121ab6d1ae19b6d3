-- The list tells of one more descriptor.
use Rattle.std.proofs.Common.{◌≡◌, ℕ, [], ◌∷◌, ◌++◌, ap, ◌∙◌, rules}
use Rattle.ds_image_parts.specs.Objects.{is_used}
use Rattle.ds_image_parts.specs.Parts.{part_at}
use Rattle.ds_check.proofs.ItemMarks.{told-more}
use Rattle.ds_check.proofs.marking.descriptors_in_use.Goals as goal

pub loop-object-preserved : goal.loop-object-preserved
loop-object-preserved c =
    let more : c.push.new.self.items ≡ c.loop-object.used.items ++ c.is_used.result ∷ [] = search rules in
    told-more (λ (n : ℕ). is_used (part_at c.args.parts.now.bodies n)) c.loop-object.object
    c.loop-object.used.items c.push.new.self.items c.is_used.result c.loop-object.invariant
    (c.is_used.ensures ∙ ap is_used c.body_at.ensures) more

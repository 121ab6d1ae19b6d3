-- The list tells of one more item.
use Rattle.std.proofs.Common.{◌≡◌, ℕ, ◌<◌, [], ◌∷◌, ◌++◌, length, ap, ◌∙◌, rules, arith}
use Rattle.std.specs.Prelude.{nat_lt, is_some}
use Rattle.ds_image_tables.specs.Users.{users}
use Rattle.ds_check.specs.Uses.{uses_of}
use Rattle.ds_check.proofs.ItemMarks.{has-first, told-more}
use Rattle.ds_check.proofs.marking.listed_items.Goals as goal

pub loop-item-preserved : goal.loop-item-preserved
loop-item-preserved c =
    let uses = uses_of c.args.geom.now c.args.parts.now c.args.kind in
    let item = c.loop-item.item in
    let there : item < length c.in_ok-users.users =
    omega (arith, c.in_ok-users.ensures.count, c.item_count-item-end.ensures, c.loop-item-test.true) in
    let some : c.is_some.result ≡ is_some c.first.result = search rules in
    let more : c.push.new.self.items ≡ c.loop-item.used.items ++ c.is_some.result ∷ [] = search rules in
    told-more (λ (n : ℕ). nat_lt 0 (length (users uses n))) item
    c.loop-item.used.items c.push.new.self.items c.is_some.result c.loop-item.invariant
    (some ∙ ap is_some (c.first.ensures.of_uses uses c.in_ok-users.ensures.knows there) ∙ has-first (users uses item)) more

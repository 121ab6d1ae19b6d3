-- The items are put behind the others, and their bitmap behind the others.
use Rattle.std.proofs.Common.{◌≡◌, ◌*◌, ◌≤◌, ◌+◌, ◌++◌, [], ◌∷◌, map, sym, ap, subst, ◌∙◌}
use Rattle.ds_base.specs.Geometry.{per_cluster}
use Rattle.ds_bitmap.specs.Bits.{bits_bytes}
use Rattle.ds_plan_resize.proofs.Clusters.{first-few, few-items, small-items, more-is}
use Rattle.ds_plan_resize.proofs.taking.taken_more.Goals as goal

pub put_numbers-requires-clause-few : goal.put_numbers-requires-clause-few
put_numbers-requires-clause-few c =
    let one : c.from.result ≡ c.args.cluster = c.from.ensures in
    let two : c.per_cluster.result ≡ per_cluster c.args.geom.now c.args.kind = c.per_cluster.ensures in
    subst (λ n. n ≤ 30720) (sym (ap (λ n. n * c.per_cluster.result) one ∙ ap (λ n. c.args.cluster * n) two))
    (first-few c.args.geom.now c.args.kind c.args.cluster c.requires.geom c.requires.inside)

pub put_numbers-requires-clause-small : goal.put_numbers-requires-clause-small
put_numbers-requires-clause-small c =
    small-items c.args.geom.now c.args.kind c.args.cluster c.args.map c.args.items.now c.requires.geom c.requires.is_bits c.requires.can

pub marked-requires-clause-small : goal.marked-requires-clause-small
marked-requires-clause-small c = few-items c.args.geom.now c.args.kind c.args.cluster c.args.map c.requires.geom c.requires.is_bits

pub returns : goal.returns
returns c =
    let g = c.args.geom.now in
    let one : c.from.result ≡ c.args.cluster = c.from.ensures in
    let two : c.per_cluster.result ≡ per_cluster g c.args.kind = c.per_cluster.ensures in
    let first : c.from.result * c.per_cluster.result ≡ c.args.cluster * per_cluster g c.args.kind = ap (λ n. n * c.per_cluster.result) one ∙ ap (λ n. c.args.cluster * n) two in
    more-is g c.args.kind c.args.cluster c.args.map c.args.items.now c.args.taken (record { numbers = c.put_numbers.new.numbers; maps = c.push.new.self })
    (sym c.is_empty.ensures ∙ c.if-is_empty.false)
    (c.put_numbers.ensures ∙ ap (λ n. c.args.taken.numbers.items ++ map (λ item. n + item) c.args.items.now) first)
    (c.push.ensures.items ∙ ap (λ x. c.args.taken.maps.items ++ x ∷ [])
    (λ i. (c.sector_of-at.ensures i, record { bytes = (c.encode.ensures ∙ ap bits_bytes c.marked.ensures) i })))

use Rattle.std.proofs.Common.{◌≡◌, ◌<◌, ◌≤◌, length, take, sym, ◌∙◌, arith}
use Rattle.ds_bitmap.proofs.Packed.{names_bits, unpacked_same, same_bitmap}
use Rattle.ds_bitmap.proofs.bits.Bits.named.Goals as goal

pub returns-clause-named : goal.returns-clause-named
returns-clause-named c = λ b h e.
    let cluster_fits : c.args.cluster < 256 = c.ranges.cluster.fits in
    let cluster : b.cluster < 256 = omega (arith, h.same_cluster) in
    let count : length b.used ≡ c.items_of_each.result = h.count ∙ sym c.items_of_each.ensures.exact in
    let most : length b.used ≤ 3840 = omega (arith, c.items_of_each.ensures.most) in
    let bits = names_bits c.args.sector.now.bytes c.read-parts.result b c.read-parts.ensures.fits cluster most c.read-parts.ensures.parts e in
    let used : take c.items_of_each.result c.unpacked-used.result ≡ b.used =
    unpacked_same c.read-parts.result.bits b.used c.unpacked-used.result c.items_of_each.result bits count c.items_of_each.ensures.most c.unpacked-used.ensures.len c.unpacked-used.ensures.each in
    same_bitmap _ b (sym h.same_kind) (sym h.same_cluster) used

use Rattle.std.proofs.Common.{◌∙◌, sym, arith}
use Rattle.ds_tree.proofs.ObjectLists.{none_free}
use Rattle.ds_tree.proofs.tables.Table.lowest_free.Goals as goal

pub unreachable-requires : goal.unreachable-requires
unreachable-requires c =
    let count = sym c.object_count-object-end.ensures.objects ∙ c.object_count-object-end.ensures.descriptors in
    c.requires (none_free c.args.self.now.geom c.args.self.now.tree count (λ n h. c.loop-object.invariant n (omega (arith, c.object_count-object-end.ensures.objects))))

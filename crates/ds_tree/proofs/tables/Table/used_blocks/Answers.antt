use Rattle.std.proofs.Common.{◌≡◌, ◌<◌, ℕ, List, subst, sym, ap, ◌∙◌, slice_index_or}
use Rattle.std.specs.Prelude.{All}
use Rattle.ds_base.specs.Geometry.{items_of}
use Rattle.ds_base.specs.declared.geometry.Kind.TheVariants as kinds
use Rattle.ds_tree.specs.Nodes.{Object, blocks_of, object_at, unborn}
use Rattle.std.proofs.lemmas.List.{get_or_default}
use Rattle.ds_tree.proofs.tables.Table.used_blocks.Goals as goal

pub mark-requires : goal.mark-requires
mark-requires c =
    let P : ℕ → Type 0 = λ b. b < items_of c.args.self.now.geom kinds.Fb in
    let n : ℕ = c.loop-object.object-index in
    let objects : List Object = c.objects-object-items.result.now in
    let is : c.object-item.result ≡ object_at c.args.self.now.tree n =
    c.object-item.is ∙ get_or_default objects n c.object-item.result unborn c.loop-object-test.true
    ∙ ap (λ (os : List Object). slice_index_or os n unborn) c.loop-object.invariant.0 in
    let here : All P c.blocks-in-loop-object.result.now =
    subst (λ bs. All P bs) (ap (λ (o : Object). blocks_of o.node) (sym is) ∙ sym c.blocks-in-loop-object.ensures) (c.requires.blocks_in_range n) in
    λ k d h. subst (λ n. slice_index_or c.blocks-in-loop-object.result.now k d < n) (sym c.loop-object.invariant.1) (here k d h)

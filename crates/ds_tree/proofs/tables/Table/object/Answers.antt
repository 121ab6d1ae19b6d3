use Rattle.std.proofs.Common.{◌∙◌, ap, arith, slice_index_or}
use Rattle.ds_tree.specs.Nodes.{unborn, object_at}
use Rattle.ds_tree.specs.Trees.{TreeValue}
use Rattle.ds_tree.proofs.tables.Table.object.Goals as goal

pub returns : goal.returns
returns c = c.get.ensures.lookup.4 (omega arith) unborn ∙ ap (λ xs. slice_index_or xs c.args.object unborn) c.deref.ensures.value
    ∙ ap (λ (v : TreeValue). object_at v.tree c.args.object) c.self.view_is

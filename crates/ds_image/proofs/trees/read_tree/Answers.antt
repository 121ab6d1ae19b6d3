-- An image stands for at most one tree.
use Rattle.std.proofs.lemmas.Result.{IfOk-weaker}
use Rattle.std.proofs.Common.{◌≡◌, Option, None, Some, MatchOption, IfSome}
use Rattle.ds_tree.specs.Nodes.{FileTree}
use Rattle.ds_tree.specs.Trees.{TreeValue}
use Rattle.ds_image.specs.ReadTrees.{StandsForNone}
use Rattle.ds_image.specs.Sound.{StandsFor}
use Rattle.ds_image.proofs.FileTrees.Standing.{stands_once}
use Rattle.ds_image.proofs.trees.read_tree.Goals as goal

pub returns-clause-only : goal.returns-clause-only
returns-clause-only _ c =
    let g = c.args.image.now.geom in
    let sectors = c.args.image.now.sectors in
    let Only : Option TreeValue → Type 0 = λ found. IfSome found (λ (it : TreeValue). (t : FileTree) → StandsFor g sectors t → t ≡ it.tree) in
    IfOk-weaker _
    (λ (found : Option TreeValue). MatchOption found (StandsForNone g sectors) (λ (it : TreeValue). StandsFor g sectors it.tree))
    Only
    (λ found is. (elim found as (λ (found : Option TreeValue). MatchOption found (StandsForNone g sectors) (λ (it : TreeValue). StandsFor g sectors it.tree) → Only found) [
      | None ↦ λ none. tt
      | Some it ↦ λ stands t that. stands_once g sectors t it.tree that stands
    ]) is)
    c.tree_in.ensures.tree

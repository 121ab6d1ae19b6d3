-- The image stands for the tree that its parts spell, or for none.
use Rattle.std.proofs.Common.{slice_get, sym, ◌∙◌, subst}
use Rattle.std.proofs.lemmas.Bool.{false≢true}
use Rattle.ds_base.specs.declared.geometry.Geom.{Geom}
use Rattle.ds_tree.specs.WellFormed.{IsTree}
use Rattle.ds_image_parts.specs.Objects.{tree_of}
use Rattle.ds_image.proofs.FileTrees.ReadTrees.{none-unsound, none-unrooted}
use Rattle.ds_image.proofs.FileTrees.TreesThatStand.{tree-from_rooted}
use Rattle.ds_image.proofs.trees.tree_in.Goals as goal

pub returns-then-not-branch-clause-tree : goal.returns-then-not-branch-clause-tree
returns-then-not-branch-clause-tree _ c =
    none-unsound c.args.image.now.geom c.args.image.now.sectors c.in_ok-parts.parts c.in_ok-parts.ensures
    (λ sound. false≢true (sym c.if-not-branch.true ∙ c.in_ok-is_sound.ensures.1 sound))

pub returns-then-not-branch-2-clause-tree : goal.returns-then-not-branch-2-clause-tree
returns-then-not-branch-2-clause-tree _ c =
    none-unrooted c.args.image.now.geom c.args.image.now.sectors c.in_ok-parts.parts c.in_ok-parts.ensures (c.in_ok-is_sound.ensures.0 c.if-not-branch.false)
    (λ rooted. false≢true (sym c.if-not-branch-2.true ∙ c.in_ok-is_rooted.ensures.1 rooted))

pub tree_of-requires-clause-tree : goal.tree_of-requires-clause-tree
tree_of-requires-clause-tree _ c =
    subst (λ (g : Geom). IsTree g (tree_of c.in_ok-parts.parts)) (sym c.geom-geom.ensures.value)
    (tree-from_rooted c.args.image.now.geom (slice_get c.args.image.now.sectors) c.in_ok-parts.parts c.in_ok-parts.ensures (c.in_ok-is_sound.ensures.0 c.if-not-branch.false)
    (c.in_ok-is_rooted.ensures.0 c.if-not-branch-2.false))

-- An image stands for no tree where its parts disagree or aren't rooted.
use Rattle.std.proofs.Common.{◌≡◌, List, slice_get, ap, ◌∙◌, subst}
use Rattle.ds_base.specs.declared.geometry.Geom.{Geom}
use Rattle.ds_base.specs.declared.sectors.Sector.{Sector}
use Rattle.ds_tree.specs.Nodes.{FileTree}
use Rattle.ds_tree.specs.WellFormed.{IsTree}
use Rattle.ds_image_parts.specs.Objects.{tree_of}
use Rattle.ds_image_parts.specs.Parts.{Parts}
use Rattle.ds_image.specs.ReadTrees.{StandsForNone}
use Rattle.ds_image_parts.specs.Readings.{ReadsParts}
use Rattle.ds_image.specs.Rooted.{IsRooted}
use Rattle.ds_image.specs.Sound.{IsSound, StandsFor}
use Rattle.ds_image_parts.proofs.Spelling.Readings.{parts_same}
use Rattle.ds_image.proofs.FileTrees.RootedTrees.{rooted-from_tree}

module _ (g : Geom) (image : List Sector) (p : Parts) (reads : ReadsParts g (slice_get image) p) where
  parts-are : (t : FileTree) (stands : StandsFor g image t) → stands.parts ≡ p
  parts-are t stands = parts_same g (slice_get image) stands.parts p stands.reads reads

  pub none-unsound : ¬ IsSound p → StandsForNone g image
  none-unsound unsound = λ t stands. unsound (subst IsSound (parts-are t stands) stands.sound)

  pub none-unrooted : IsSound p → ¬ IsRooted p → StandsForNone g image
  none-unrooted sound unrooted = λ t stands.
      let tree : t ≡ tree_of p = stands.tree ∙ ap tree_of (parts-are t stands) in
      unrooted (rooted-from_tree g p sound (subst (λ (u : FileTree). IsTree g u) tree stands.is_tree))

-- An image stands for at most one tree.
use Rattle.std.proofs.Common.{◌≡◌, List, slice_get, sym, ap, ◌∙◌}
use Rattle.ds_base.specs.declared.geometry.Geom.{Geom}
use Rattle.ds_base.specs.declared.sectors.Sector.{Sector}
use Rattle.ds_tree.specs.Nodes.{FileTree}
use Rattle.ds_image_parts.specs.Objects.{tree_of}
use Rattle.ds_image.specs.Sound.{StandsFor}
use Rattle.ds_image_parts.proofs.Spelling.Readings.{parts_same}

pub stands_once : (g : Geom) (image : List Sector) (t u : FileTree) → StandsFor g image t → StandsFor g image u → t ≡ u
stands_once g image t u a b =
    a.tree ∙ ap tree_of (parts_same g (slice_get image) a.parts b.parts a.reads b.reads) ∙ sym b.tree

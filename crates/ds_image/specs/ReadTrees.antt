-- Images that stand for no tree.
use Rattle.std.specs.Prelude.{List}
use Rattle.ds_base.specs.declared.geometry.Geom.{Geom}
use Rattle.ds_base.specs.declared.sectors.Sector.{Sector}
use Rattle.ds_tree.specs.Nodes.{FileTree}
use Rattle.ds_image.specs.Sound.{StandsFor}

-- the image stands for no tree
abbrev pub StandsForNone : Geom → List Sector → Type 0
StandsForNone g image = (t : FileTree) → ¬ StandsFor g image t

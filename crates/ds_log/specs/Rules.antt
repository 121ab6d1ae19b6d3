-- What differs from one world to another: the device at first, which steps commit a change, and for which tree a device
-- stands.
use Rattle.std.specs.Prelude.{Bool, List}
use Rattle.ds_base.specs.declared.sectors.Sector.{Sector}
use Rattle.ds_tree.specs.Nodes.{FileTree}
use Rattle.ds_log.specs.declared.logs.Step.{Step}

pub record Rules : Type 1 where
  pub start : List Sector
  pub is_commit : List Sector → Step → Bool
  pub StandsFor : List Sector → FileTree → Type 0

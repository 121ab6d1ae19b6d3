-- What a check of sectors says.
use Rattle.std.specs.Prelude.{◌≡◌, ◌⊎◌, ℕ, List, Result, Ok, Err, ⊤}
use Rattle.ds_base.specs.declared.geometry.Geom.{Geom}
use Rattle.ds_base.specs.declared.sectors.Sector.{Sector}
use Rattle.ds_tree.specs.Nodes.{FileTree}
use Rattle.ds_image_parts.specs.BadSectors.{HasNoBad}
use Rattle.ds_image_parts.specs.Logical.{IsLogical}
use Rattle.ds_image.specs.Sound.{StandsFor}
use Rattle.ds_check.specs.declared.checking.CheckFault.{CheckFault}
use Rattle.ds_check.specs.declared.checking.CheckFault.TheVariants.{NoMemory, BadImage}
use Rattle.ds_check.specs.declared.findings.Find.{Find}
use Rattle.ds_check.specs.Findings.{AreFindings}
use Rattle.ds_check.specs.Volumes.{AreOfVolume, IsBadImage}

-- the sectors are those of a volume, and these are its findings
pub record AreFindingsOf (sectors : List Sector) (finds : List Find) : Type 0 where
  pub geom : Geom
  pub id : List ℕ
  pub volume : AreOfVolume sectors geom id
  pub findings : AreFindings geom id sectors finds

-- memory may be wanting at any time; a bad image isn't the sectors of a volume
abbrev pub IsCheckFault : List Sector → CheckFault → Type 0
IsCheckFault sectors NoMemory = ⊤
IsCheckFault sectors (BadImage at) = IsBadImage sectors at

-- the answer for sectors; want of memory is none
abbrev pub IsCheckAnswer : List Sector → Result (List Find) CheckFault → Type 0
IsCheckAnswer sectors (Ok finds) = AreFindingsOf sectors finds
IsCheckAnswer sectors (Err (BadImage at)) = IsBadImage sectors at
IsCheckAnswer sectors (Err NoMemory) = ⊥

-- a fact of what was answered, which yields to want of memory alone
abbrev pub OrNoMemory : Result (List Find) CheckFault → Type 0 → Type 0
OrNoMemory result P = (result ≡ Err NoMemory) ⊎ P

-- no sector of this volume is bad, and its logical image stands for a tree
pub record StandsForTree (g : Geom) (sectors : List Sector) : Type 0 where
  pub good : HasNoBad g sectors
  pub image : List Sector
  pub is_logical : IsLogical g sectors image
  pub tree : FileTree
  pub stands : StandsFor g image tree

-- the same of the volume that these sectors are
abbrev pub VolumeStands : List Sector → Type 0
VolumeStands sectors = (g : Geom) (id : List ℕ) → AreOfVolume sectors g id → StandsForTree g sectors

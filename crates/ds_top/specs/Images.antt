-- What bytes are as an image: whole sectors, and bytes left over behind them.
use Rattle.std.specs.Prelude.{◌≡◌, ℕ, ◌≤◌, ◌<◌, ◌⊎◌, List, [], ◌∷◌, ◌++◌, length}
use Rattle.std.specs.List.{flat_map, AllByRecursion}
use Rattle.ds_base.specs.declared.geometry.Geom.{Geom}
use Rattle.ds_base.specs.declared.sectors.Sector.{Sector}
use Rattle.ds_tree.specs.Nodes.{FileTree}
use Rattle.ds_image_parts.specs.Logical.{IsLogical}
use Rattle.ds_image.specs.Sound.{StandsFor}
use Rattle.ds_report.specs.Listing.{listing_of}
use Rattle.ds_check.specs.declared.findings.Find.{Find}
use Rattle.ds_check.specs.Checks.{AreFindingsOf}
use Rattle.ds_check.specs.Texts.{report_text}
use Rattle.ds_check.specs.Volumes.{AreOfVolume, IsBadImage}
use Rattle.ds_top.specs.declared.outcome.Why.{Why}
use Rattle.ds_top.specs.declared.outcome.Why.TheVariants.{Done, BadImage, Findings}

-- the most bytes of an image
abbrev pub most_image_bytes : ℕ
most_image_bytes = 67108864

abbrev pub bytes_of : List Sector → List ℕ
bytes_of sectors = flat_map (λ (s : Sector). s.bytes) sectors

-- the bytes are these whole sectors, and so many bytes behind them, fewer than a sector has
pub record IsCut (bytes : List ℕ) (sectors : List Sector) (left_over : ℕ) : Type 0 where
  pub behind : List ℕ
  pub split : bytes ≡ bytes_of sectors ++ behind
  pub whole : AllByRecursion (λ (s : Sector). length s.bytes ≡ 512) sectors
  pub counted : length behind ≡ left_over
  pub short : left_over < 512

-- the same of bytes that aren't too many
pub record IsImage (bytes : List ℕ) (sectors : List Sector) (left_over : ℕ) : Type 0 where
  pub cut : IsCut bytes sectors left_over
  pub few : length bytes ≤ most_image_bytes

-- the sectors are those of a volume, and bytes are left over behind the last of them, which is told by the number of sectors
pub record HasBytesBehind (sectors : List Sector) (left_over at : ℕ) : Type 0 where
  pub some : 0 < left_over
  pub finds : List Find
  pub volume : AreFindingsOf sectors finds
  pub here : at ≡ length sectors

-- these are the findings of sectors without bytes behind them, so many, and at least one
pub record HasFindings (sectors : List Sector) (left_over count : ℕ) : Type 0 where
  pub none_behind : left_over ≡ 0
  pub finds : List Find
  pub findings : AreFindingsOf sectors finds
  pub counted : count ≡ length finds
  pub some : 0 < count

-- the outcome that an image causes where it is checked or listed
abbrev pub CausesImage : List Sector → ℕ → Why → Type 0
CausesImage sectors left_over Done = (left_over ≡ 0) × AreFindingsOf sectors []
CausesImage sectors left_over (Findings count) = HasFindings sectors left_over count
CausesImage sectors left_over (BadImage at) = IsBadImage sectors at ⊎ HasBytesBehind sectors left_over at
CausesImage sectors left_over _ = ⊥

-- how a run ends that wrote the findings
abbrev pub why_of_finds : List Find → Why
why_of_finds [] = Done
why_of_finds (first ∷ more) = Findings (length (first ∷ more))

-- the logical image of the volume that these sectors are stands for the tree
pub record IsTreeOf (sectors : List Sector) (t : FileTree) : Type 0 where
  pub geom : Geom
  pub id : List ℕ
  pub volume : AreOfVolume sectors geom id
  pub image : List Sector
  pub is_logical : IsLogical geom sectors image
  pub stands : StandsFor geom image t

-- the listing of the tree for which the logical image stands, or the findings where there are any
abbrev pub IsListing : List Sector → List Find → List ℕ → Type 0
IsListing sectors [] text = (t : FileTree) × IsTreeOf sectors t × (text ≡ listing_of t)
IsListing sectors (first ∷ more) text = text ≡ report_text (first ∷ more)

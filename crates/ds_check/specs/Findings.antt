-- What a check finds in the bytes of an image: the findings of the first stage that has any.
use Rattle.std.specs.Prelude.{◌≡◌, ℕ, ◌↔◌, ◌⊎◌, List, [], ◌∷◌, map, slice_get, Contains, true}
use Rattle.std.specs.List.Sorted.{IsStrictlyIncreasing}
use Rattle.ds_base.specs.declared.geometry.Geom.{Geom}
use Rattle.ds_base.specs.declared.sectors.Sector.{Sector}
use Rattle.ds_tree.specs.WellFormed.{Reached}
use Rattle.ds_image_parts.specs.Logical.{IsLogical}
use Rattle.ds_image_parts.specs.Objects.{is_used, tree_of}
use Rattle.ds_image_parts.specs.Parts.{Parts, part_at}
use Rattle.ds_image_parts.specs.Readings.{ReadsParts}
use Rattle.ds_check.specs.declared.findings.Find.{Find}
use Rattle.ds_check.specs.declared.findings.Find.TheVariants.{Lost}
use Rattle.ds_check.specs.Controls.{Controls, ReadsControls}
use Rattle.ds_check.specs.Journals.{journals_stage}
use Rattle.ds_check.specs.Headers.{headers_stage}
use Rattle.ds_check.specs.Metadata.{metadata_stage}
use Rattle.ds_check.specs.Addresses.{addresses_stage}
use Rattle.ds_check.specs.Sharing.{sharing_stage}
use Rattle.ds_check.specs.Marking.{marking_stage}
use Rattle.ds_check.specs.Names.{naming_stage}
use Rattle.ds_check.specs.Rows.{first_found}

-- an object that is in use, and isn't reached from the root
abbrev pub IsLost : Parts → ℕ → Type 0
IsLost p o = (is_used (part_at p.bodies o) ≡ true) × (Reached (tree_of p) o → ⊥)

-- the last stage: the objects that are lost, by rising number
pub record AreLost (p : Parts) (finds : List Find) : Type 0 where
  pub objects : List ℕ
  pub told : finds ≡ map Lost objects
  pub rising : IsStrictlyIncreasing objects
  pub exact : (o : ℕ) → Contains objects o ↔ IsLost p o
  -- what is in use and isn't told is reached
  pub rest : (o : ℕ) → is_used (part_at p.bodies o) ≡ true → Contains objects o ⊎ Reached (tree_of p) o

-- these findings, where there are any, and else those of the last stage
abbrev pub AreFoundOrLost : Parts → List Find → List Find → Type 0
AreFoundOrLost p [] finds = AreLost p finds
AreFoundOrLost p (first ∷ more) finds = finds ≡ first ∷ more

-- the findings of the first of the stages before the last that has any
abbrev pub found_in : Geom → Parts → List Find
found_in g p = first_found (metadata_stage g p ∷ addresses_stage g p ∷ sharing_stage g p ∷ marking_stage g p ∷ naming_stage g p ∷ [])

-- what is found in the parts of a logical image
abbrev pub AreFoundIn : Geom → Parts → List Find → Type 0
AreFoundIn g p finds = AreFoundOrLost p (found_in g p) finds

-- what is found in the logical image of these sectors
pub record AreFoundBehind (g : Geom) (sectors : List Sector) (finds : List Find) : Type 0 where
  pub image : List Sector
  pub is_logical : IsLogical g sectors image
  pub parts : Parts
  pub reads : ReadsParts g (slice_get image) parts
  pub found : AreFoundIn g parts finds

-- the findings of the first two stages, where there are any, and else those of the logical image
abbrev pub AreFoundFrom : Geom → List Sector → List Find → List Find → Type 0
AreFoundFrom g sectors [] finds = AreFoundBehind g sectors finds
AreFoundFrom g sectors (first ∷ more) finds = finds ≡ first ∷ more

-- what is found in front of the logical image: in the first two stages
pub record AreFoundInFront (g : Geom) (id : List ℕ) (sectors : List Sector) (finds : List Find) : Type 0 where
  pub controls : Controls
  pub reads : ReadsControls g sectors controls
  pub found : finds ≡ first_found (headers_stage g id controls ∷ journals_stage g controls ∷ [])

-- the findings of a volume with this id, this geometry and these sectors
pub record AreFindings (g : Geom) (id : List ℕ) (sectors : List Sector) (finds : List Find) : Type 0 where
  pub front : List Find
  pub in_front : AreFoundInFront g id sectors front
  pub found : AreFoundFrom g sectors front finds

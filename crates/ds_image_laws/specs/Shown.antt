-- The metadata of a store's logical image, whatever else an image has.
use Rattle.std.specs.Prelude.{All, ◌≡◌, ℕ, ◌<◌, List, slice_get, Some}
use Rattle.ds_base.specs.declared.geometry.Geom.{Geom}
use Rattle.ds_base.specs.declared.sectors.Sector.{Sector}
use Rattle.ds_base.specs.Decoding.{IsDecoded}
use Rattle.ds_marks.specs.declared.slot.Slot.{Slot}
use Rattle.ds_marks.specs.declared.slot.Journal.TheVariants.{Idle}
use Rattle.ds_image.specs.Guards.{GuardedBy}
use Rattle.ds_image.specs.Asking.{targets_of}
use Rattle.ds_layout.specs.declared.places.Place.{Place}
use Rattle.ds_layout.specs.declared.places.Place.TheVariants as places
use Rattle.ds_image_parts.specs.Logical.{IsLogical, laid_over}
use Rattle.ds_layout.specs.Metadata.{IsMetadata}
use Rattle.ds_image_parts.specs.Pending.{Pair, ArePending}
use Rattle.ds_image_parts.specs.Readings.{SpellsSlot}
use Rattle.ds_image.specs.Sound.{StandsFor}
use Rattle.ds_tree.specs.Nodes.{FileTree}

-- the two hold the same metadata
abbrev pub SameMetadata : Geom → List Sector → List Sector → Type 0
SameMetadata g image other = (at : ℕ) → IsMetadata g at → slice_get other at ≡ slice_get image at

-- the image has the metadata of the store's logical image
pub record Shows (g : Geom) (sectors image : List Sector) : Type 0 where
  pub logical : List Sector
  pub is_logical : IsLogical g sectors logical
  pub same : SameMetadata g logical image

-- each pair stands at its sector
abbrev pub AreInPlace : List Sector → List Pair → Type 0
AreInPlace sectors pairs = All (λ (pair : Pair). slice_get sectors pair.0 ≡ Some pair.1) pairs

-- the slot's journal is idle
pub record IsIdle (g : Geom) (sectors : List Sector) (number : ℕ) : Type 0 where
  pub slot : Slot
  pub decoded : IsDecoded (Some slot) (SpellsSlot g (slice_get sectors) number)
  pub idle : slot.journal ≡ Idle

-- a write at this place changes no pending pairs: it is no slot, and a sector of a journal only where the slot is idle
abbrev pub IsHarmless : Geom → List Sector → Place → Type 0
IsHarmless g sectors (places.Slot n) = ⊥
IsHarmless g sectors (places.Journal n i) = IsIdle g sectors n
IsHarmless g sectors _ = Unit {0}

-- pairs that make of the image one that stands for the tree, and such lock objects protect each target before and after
pub record MakesImage (g : Geom) (Held : ℕ → Type 0) (image : List Sector) (pairs : List Pair) (u : FileTree) : Type 0 where
  pub stands : StandsFor g (laid_over image pairs) u
  pub before : All (GuardedBy g (slice_get image) Held) (targets_of pairs)
  pub after : All (GuardedBy g (slice_get (laid_over image pairs)) Held) (targets_of pairs)

-- the image of a store: it stands for the tree, and the lock object of each pending target is one of those of its slot
pub record HoldsImage (g : Geom) (sectors : List Sector) (Names : ℕ → ℕ → Type 0) (image : List Sector) (t : FileTree) : Type 0 where
  pub shows : Shows g sectors image
  pub stands : StandsFor g image t
  pub guarded : (slot : ℕ) (pairs : List Pair) → slot < g.slots → ArePending g sectors slot pairs
      → All (GuardedBy g (slice_get image) (Names slot)) (targets_of pairs)

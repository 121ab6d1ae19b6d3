-- Pending pairs: what committed journals still have to write.
use Rattle.std.specs.Prelude.{All, ◌≡◌, ℕ, List, [], length, map, slice_get, Option, Some, None}
use Rattle.ds_base.specs.Decoding.{IsDecoded}
use Rattle.ds_base.specs.declared.geometry.Geom.{Geom}
use Rattle.ds_base.specs.declared.sectors.Sector.{Sector}
use Rattle.ds_jrnl.specs.declared.index.Index.{Index}
use Rattle.ds_layout.specs.Places.{place_sector}
use Rattle.ds_layout.specs.declared.places.Place.TheVariants as places
use Rattle.ds_marks.specs.declared.slot.Slot.{Slot}
use Rattle.ds_marks.specs.declared.slot.Journal.{Journal}
use Rattle.ds_marks.specs.declared.slot.Journal.TheVariants.{Idle, Committed}
use Rattle.ds_layout.specs.Metadata.{IsMetadata}
use Rattle.ds_image_parts.specs.Readings.{SpellsSlot, SpellsIndex}

-- a sector's number, and what the sector is to hold
abbrev pub Pair : Type 0
Pair = ℕ × Sector

-- the index in a slot's journal, of this generation, transaction and count: all its targets are metadata
pub record IsIndexOf (g : Geom) (sectors : List Sector) (slot generation txn count : ℕ) (x : Index) : Type 0 where
  pub spelled : SpellsIndex g (slice_get sectors) slot x
  pub same_slot : x.slot ≡ slot
  pub same_generation : x.generation ≡ generation
  pub same_txn : x.txn ≡ txn
  pub same_count : length x.targets.items ≡ count
  pub metadata : All (IsMetadata g) x.targets.items

-- the pairs of the targets and of the sectors of a slot's journal, in their order
pub record AreJournalled (g : Geom) (sectors : List Sector) (slot : ℕ) (targets : List ℕ) (pairs : List Pair) : Type 0 where
  pub have_targets : map (λ (pair : Pair). pair.0) pairs ≡ targets
  pub have_sectors : (i : ℕ) (pair : Pair) → slice_get pairs i ≡ Some pair
      → slice_get sectors (place_sector g (places.Journal slot i)) ≡ Some pair.1

-- the pairs of a slot's journal: none where it is idle, and else those of its index
abbrev pub AreOfJournal : Geom → List Sector → ℕ → ℕ → Journal → List Pair → Type 0
AreOfJournal g sectors slot generation Idle pairs = pairs ≡ []
AreOfJournal g sectors slot generation (Committed txn count) pairs =
    (x : Index) × IsIndexOf g sectors slot generation txn count x × AreJournalled g sectors slot x.targets.items pairs

-- the pairs of a slot that was read; a sector that spells no slot has none, nor has a free slot, whose journal is idle
abbrev pub AreOfSlot : Geom → List Sector → ℕ → Option Slot → List Pair → Type 0
AreOfSlot g sectors number None pairs = pairs ≡ []
AreOfSlot g sectors number (Some s) pairs = AreOfJournal g sectors number s.generation s.journal pairs

-- the pending pairs of a slot; where the journal's index is not as it has to be there are no such pairs, not even none
pub record ArePending (g : Geom) (sectors : List Sector) (number : ℕ) (pairs : List Pair) : Type 0 where
  pub slot : Option Slot
  pub decoded : IsDecoded slot (SpellsSlot g (slice_get sectors) number)
  pub of_slot : AreOfSlot g sectors number slot pairs

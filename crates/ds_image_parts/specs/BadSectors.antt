-- Sectors for which a store has no logical image to show.
use Rattle.std.specs.Prelude.{◌≡◌, ℕ, ◌<◌, List, slice_get}
use Rattle.ds_base.specs.declared.geometry.Geom.{Geom}
use Rattle.ds_base.specs.declared.sectors.Sector.{Sector}
use Rattle.ds_jrnl.specs.declared.index.Index.{Index}
use Rattle.ds_layout.specs.Places.{IsPlace, place_sector}
use Rattle.ds_layout.specs.declared.places.Place.{Place}
use Rattle.ds_layout.specs.declared.places.Place.TheVariants as places
use Rattle.ds_marks.specs.declared.header.Header.{Header}
use Rattle.ds_marks.specs.declared.slot.Slot.{Slot}
use Rattle.ds_marks.specs.declared.slot.Journal.TheVariants.{Committed}
use Rattle.ds_image_parts.specs.Pending.{IsIndexOf}
use Rattle.ds_image_parts.specs.Readings.{SpellsSlot, SpellsHeader}

-- the journal of a slot is committed, and its index is not as it has to be
pub record HasBadIndex (g : Geom) (sectors : List Sector) (number : ℕ) : Type 0 where
  pub slot : Slot
  pub txn : ℕ
  pub count : ℕ
  pub spelled : SpellsSlot g (slice_get sectors) number slot
  pub committed : slot.journal ≡ Committed txn count
  pub no_index : (x : Index) → ¬ IsIndexOf g sectors number slot.generation txn count x

-- a slot or header that isn't spelled, or the index of a committed slot that is not as it has to be
abbrev pub IsBadPlace : Geom → List Sector → Place → Type 0
IsBadPlace g sectors (places.Slot number) = (s : Slot) → ¬ SpellsSlot g (slice_get sectors) number s
IsBadPlace g sectors (places.Header object) = (h : Header) → ¬ SpellsHeader g (slice_get sectors) object h
IsBadPlace g sectors (places.Journal number index) = (index ≡ 31) × HasBadIndex g sectors number
IsBadPlace g sectors _ = ⊥

-- a sector of such a place
pub record IsBad (g : Geom) (sectors : List Sector) (at : ℕ) : Type 0 where
  pub place : Place
  pub is_place : IsPlace g place
  pub here : place_sector g place ≡ at
  pub bad : IsBadPlace g sectors place

-- the least of these sectors
pub record IsLeastBad (g : Geom) (sectors : List Sector) (at : ℕ) : Type 0 where
  pub is_bad : IsBad g sectors at
  pub least : (other : ℕ) → other < at → ¬ IsBad g sectors other

-- no sector is such a one
abbrev pub HasNoBad : Geom → List Sector → Type 0
HasNoBad g sectors = (at : ℕ) → ¬ IsBad g sectors at

-- Pairs that are laid over sectors one after another, and what they are.
use Rattle.std.specs.Prelude.{◌≡◌, ℕ, ◌<◌, List, [], length, slice_get, slice_index_or, Some}
use Rattle.std.specs.List.{flat_map}
use Rattle.ds_base.specs.Decoding.{IsDecoded}
use Rattle.ds_base.specs.declared.geometry.Geom.{Geom}
use Rattle.ds_base.specs.declared.sectors.Sector.{Sector}
use Rattle.ds_jrnl.specs.declared.index.Index.{Index}
use Rattle.ds_marks.specs.declared.slot.Slot.{Slot}
use Rattle.ds_marks.specs.declared.slot.Journal.TheVariants.{Committed}
use Rattle.ds_image_parts.specs.Logical.{laid_over}
use Rattle.ds_image_parts.specs.Looks.{AreBlocks}
use Rattle.ds_image_parts.specs.Pending.{Pair, IsIndexOf, ArePending}
use Rattle.ds_image_parts.specs.Readings.{SpellsSlot}

-- what is left where such pairs are laid over sectors
pub record Lays (Are : List Pair → Type 0) (before after : List Sector) : Type 0 where
  pub pairs : List Pair
  pub are : Are pairs
  pub laid : after ≡ laid_over before pairs
  pub blocks : AreBlocks (slice_get before) → AreBlocks (slice_get after)

-- the index of a slot's committed journal, which is as it has to be
pub record IsCommitted (g : Geom) (sectors : List Sector) (number : ℕ) (x : Index) : Type 0 where
  pub slot : Slot
  pub txn : ℕ
  pub count : ℕ
  pub decoded : IsDecoded (Some slot) (SpellsSlot g (slice_get sectors) number)
  pub committed : slot.journal ≡ Committed txn count
  pub index : IsIndexOf g sectors number slot.generation txn count x

-- the pending pairs of the first n slots, in the order of the slots
pub record ArePendingBelow (g : Geom) (sectors : List Sector) (n : ℕ) (pairs : List Pair) : Type 0 where
  pub lists : List (List Pair)
  pub one_each : length lists ≡ n
  pub pending : (number : ℕ) → number < n → ArePending g sectors number (slice_index_or lists number [])
  pub joined : pairs ≡ flat_map (λ list. list) lists

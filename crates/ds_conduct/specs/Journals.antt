-- What a call has seen, and what was written into journals and read of them.
use Rattle.std.specs.Prelude.{All, ◌≡◌, ℕ, ◌<◌, List, [], ◌∷◌, length, slice_get, Some}
use Rattle.std.specs.List.{Contains}
use Rattle.ds_base.specs.declared.geometry.Geom.{Geom}
use Rattle.ds_base.specs.declared.sectors.Sector.{Sector}
use Rattle.ds_jrnl.specs.Index.{IsIndex, index_bytes}
use Rattle.ds_jrnl.specs.declared.index.Index.{Index}
use Rattle.ds_jrnl.specs.declared.redo.Redo.{Redo}
use Rattle.ds_layout.specs.Places.{place_sector, IsLock}
use Rattle.ds_layout.specs.declared.places.Place.TheVariants as places
use Rattle.ds_marks.specs.declared.header.Header.{Header}
use Rattle.ds_marks.specs.declared.header.Owner.{Owner}
use Rattle.ds_marks.specs.declared.slot.Journal.TheVariants.{Idle, Committed}
use Rattle.ds_marks.specs.declared.slot.Slot.{Slot}
use Rattle.ds_marks.specs.declared.slot.SlotState.TheVariants.{Breaking}
use Rattle.ds_tree.specs.declared.calls.TreeReply.{TreeReply}
use Rattle.ds_image.specs.Asking.{targets_of}
use Rattle.ds_layout.specs.Metadata.{IsMetadata}
use Rattle.ds_image_parts.specs.Parts.{Parts}
use Rattle.ds_image_parts.specs.Pending.{Pair}
use Rattle.ds_image.specs.Planning.{Answers}
use Rattle.ds_image_parts.specs.Readings.{ReadsParts}
use Rattle.ds_image.specs.SeenValues.{SeenValue, look_of, with_lock, with_sector}
use Rattle.ds_image.specs.declared.asks.Ask.TheVariants.{Read, Done, Change}
use Rattle.ds_marks.specs.SlotIn.{slot_in}
use Rattle.ds_conduct.specs.Digests.{Own}
use Rattle.ds_base.specs.Exchanges.{Exchange, IsLast, seen_of}
use Rattle.ds_conduct.specs.Exchanges.{IsAt, GotOf, WroteOf, SwapOf, HasRead, written_of}
use Rattle.ds_marks.specs.HeaderIn.{header_in}
use Rattle.ds_conduct.specs.Headers.{IsOf}

-- the sector spells a header of this lock object that names this generation of a slot
pub record NamesOwn (own : Own) (object : ℕ) (s : Sector) : Type 0 where
  pub header : Header
  pub spelled : header_in s.bytes ≡ Some header
  pub same_object : header.object ≡ object
  pub owner : Owner
  pub owned : header.owner ≡ Some owner
  pub is_of : IsOf owner own.slot own.generation

module _ (g : Geom) (own : Own) where
  -- a Swap took the header of this lock object
  pub record Takes (x : Exchange) (object : ℕ) : Type 0 where
    pub verify : Sector
    pub fresh : Sector
    pub swap : SwapOf x (place_sector g (places.Header object)) verify fresh
    pub is_lock : IsLock g object
    pub names : NamesOwn own object fresh

  -- a Read showed that the header of this lock object is held already
  pub record FindsHeld (x : Exchange) (object : ℕ) : Type 0 where
    pub sector : Sector
    pub got : GotOf x (place_sector g (places.Header object)) sector
    pub is_lock : IsLock g object
    pub names : NamesOwn own object sector

  -- the Read of a sector for which this planner asked, by what was seen before it
  pub record IsAsked (plan : Answers) (seen : SeenValue) (x : Exchange) (at : ℕ) (s : Sector) : Type 0 where
    pub parts : Parts
    pub reads : ReadsParts g (look_of seen) parts
    pub asked : plan seen parts ≡ Read at
    pub got : GotOf x at s

  -- what this planner is shown after these exchanges, with these lock objects at first: lock objects whose header the call took or
  -- read as its own, and the sectors for which the planner asked, as they were read then
  pub data Sees (plan : Answers) (first : List ℕ) : List Exchange → SeenValue → Type 0 where
    Nothing : Sees plan first [] (record { locks = first; sectors = [] })
    Took : (xs : List Exchange) (seen : SeenValue) (x : Exchange) (object : ℕ) → Sees plan first xs seen → Takes x object
        → Sees plan first (x ∷ xs) (with_lock seen object)
    Found : (xs : List Exchange) (seen : SeenValue) (x : Exchange) (object : ℕ) → Sees plan first xs seen → FindsHeld x object
        → Sees plan first (x ∷ xs) (with_lock seen object)
    Given : (xs : List Exchange) (seen : SeenValue) (x : Exchange) (at : ℕ) (s : Sector) → Sees plan first xs seen
        → IsAsked plan seen x at s
        → Sees plan first (x ∷ xs) (with_sector seen at s)
    Passed : (xs : List Exchange) (seen : SeenValue) (x : Exchange) → Sees plan first xs seen → Sees plan first (x ∷ xs) seen

  -- the planner's answer to what the call has seen is this change
  pub record PlansChange (plan : Answers) (xs : List Exchange) (pairs : List Pair) (reply : TreeReply) : Type 0 where
    pub seen : SeenValue
    pub sees : Sees plan [] xs seen
    pub parts : Parts
    pub reads : ReadsParts g (look_of seen) parts
    pub redo : Redo
    pub planned : plan seen parts ≡ Change redo reply
    pub same_pairs : redo.pairs.items ≡ pairs

  -- the planner's answer to what the call has seen is this reply
  pub record PlansReply (plan : Answers) (first : List ℕ) (xs : List Exchange) (reply : TreeReply) : Type 0 where
    pub seen : SeenValue
    pub sees : Sees plan first xs seen
    pub parts : Parts
    pub reads : ReadsParts g (look_of seen) parts
    pub planned : plan seen parts ≡ Done reply

  -- the newest exchange wrote the index of the own journal for this transaction, and before it these pairs were written there
  pub record Journalled (txn : ℕ) (pairs : List Pair) (xs : List Exchange) : Type 0 where
    pub exchange : Exchange
    pub earlier : List Exchange
    pub parts : xs ≡ exchange ∷ earlier
    pub sector : Sector
    pub wrote : WroteOf exchange (place_sector g (places.Journal own.slot 31)) sector
    pub index : Index
    pub is_index : IsIndex index
    pub spelled : sector.bytes ≡ index_bytes index
    pub same_slot : index.slot ≡ own.slot
    pub same_generation : index.generation ≡ own.generation
    pub same_txn : index.txn ≡ txn
    pub targets : index.targets.items ≡ targets_of pairs
    pub have_sectors : (i : ℕ) (pair : Pair) → slice_get pairs i ≡ Some pair
        → IsLast (written_of earlier) (place_sector g (places.Journal own.slot i)) pair.1

  -- a Swap of the own slot committed these pairs, which were in its journal; and what came later
  pub record HasCommitted (xs : List Exchange) (txn : ℕ) (pairs : List Pair) : Type 0 where
    pub later : List Exchange
    pub exchange : Exchange
    pub earlier : List Exchange
    pub is_at : IsAt xs later exchange earlier
    pub verify : Sector
    pub fresh : Sector
    pub swap : SwapOf exchange (place_sector g (places.Slot own.slot)) verify fresh
    pub old : Slot
    pub new : Slot
    pub was : slot_in own.slot verify.bytes ≡ Some old
    pub now : slot_in own.slot fresh.bytes ≡ Some new
    pub idle : old.journal ≡ Idle
    pub committed : new.journal ≡ Committed txn (length pairs)
    pub journalled : Journalled txn pairs earlier
    -- the slot wasn't shown since
    pub untouched : (s : Sector) → Contains (seen_of later) (place_sector g (places.Slot own.slot), s) → ⊥

  -- a Swap turned the slot to this image, which is Breaking by the own generation; and what came later
  pub record HasBroken (xs : List Exchange) (slot : ℕ) (image : Sector) (broken : Slot) : Type 0 where
    pub later : List Exchange
    pub exchange : Exchange
    pub earlier : List Exchange
    pub is_at : IsAt xs later exchange earlier
    pub verify : Sector
    pub swap : SwapOf exchange (place_sector g (places.Slot slot)) verify image
    pub within : slot < g.slots
    pub spelled : slot_in slot image.bytes ≡ Some broken
    pub mine : broken.state ≡ Breaking own.slot own.generation
    -- the slot wasn't shown since
    pub untouched : (s : Sector) → Contains (seen_of later) (place_sector g (places.Slot slot), s) → ⊥

-- the index of a slot's journal, as it was read: of this generation, transaction and count, with metadata as targets
pub record HasReadIndex (g : Geom) (xs : List Exchange) (slot generation txn count : ℕ) (index : Index) : Type 0 where
  pub sector : Sector
  pub read : HasRead xs (place_sector g (places.Journal slot 31)) sector
  pub is_index : IsIndex index
  pub spelled : sector.bytes ≡ index_bytes index
  pub same_slot : index.slot ≡ slot
  pub same_generation : index.generation ≡ generation
  pub same_txn : index.txn ≡ txn
  pub same_count : length index.targets.items ≡ count
  pub metadata : All (IsMetadata g) index.targets.items

-- target i of a slot's journal, with the sector that was read of the journal
pub record HasReadPair (g : Geom) (xs : List Exchange) (slot : ℕ) (index : Index) (i at : ℕ) (s : Sector) : Type 0 where
  pub target : slice_get index.targets.items i ≡ Some at
  pub read : HasRead xs (place_sector g (places.Journal slot i)) s

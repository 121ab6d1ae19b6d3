-- Why a call is answered so when it isn't carried out: what its exchanges show.
use Rattle.std.specs.Prelude.{◌≡◌, ◌≢◌, ℕ, ◌^◌, ◌<◌, ◌≤◌, ◌⊎◌, List, [], Some, None}
use Rattle.std.specs.List.{Contains}
use Rattle.ds_base.specs.Exchanges.{Exchange, IsLast, seen_of}
use Rattle.ds_base.specs.declared.geometry.Geom.{Geom}
use Rattle.ds_base.specs.declared.names.Key.{Key}
use Rattle.ds_base.specs.declared.sectors.Sector.{Sector}
use Rattle.ds_image.specs.Asking.{Agrees}
use Rattle.ds_image.specs.SeenValues.{SeenValue, look_of}
use Rattle.ds_image.specs.Sound.{StandsFor}
use Rattle.ds_image.specs.declared.asks.Ask.TheVariants.{Worn}
use Rattle.ds_image_parts.specs.Readings.{ReadsParts}
use Rattle.ds_image_parts.specs.Parts.{Parts}
use Rattle.ds_jrnl.specs.Index.{IsIndex, index_bytes}
use Rattle.ds_jrnl.specs.declared.index.Index.{Index}
use Rattle.ds_layout.specs.Places.{IsLock, place_sector}
use Rattle.ds_layout.specs.declared.places.Place.TheVariants as places
use Rattle.ds_marks.specs.HeaderIn.{header_if_of, header_in}
use Rattle.ds_marks.specs.SlotIn.{slot_in}
use Rattle.ds_marks.specs.declared.header.Header.{Header}
use Rattle.ds_marks.specs.declared.header.Owner.{Owner}
use Rattle.ds_marks.specs.declared.slot.Slot.{Slot}
use Rattle.ds_marks.specs.declared.slot.SlotState.TheVariants as states
use Rattle.ds_tree.specs.Nodes.{FileTree}
use Rattle.ds_tree.specs.declared.calls.CallOf.{CallOf}
use Rattle.ds_watch.specs.Notes.{IsStale, Note}
use Rattle.ds_conduct.specs.Digests.{Own}
use Rattle.ds_conduct.specs.Exchanges.{MissAt, ReadAt}
use Rattle.ds_conduct.specs.Guards.{SawOver}
use Rattle.ds_conduct.specs.Headers.{IsOf}
use Rattle.ds_conduct.specs.Judging.{IsJudged}
use Rattle.ds_conduct.specs.Journals.{HasReadIndex, Sees}
use Rattle.ds_conduct.specs.Settings.{Setting}

abbrev pub header_sector : Geom → ℕ → ℕ
header_sector g object = place_sector g (places.Header object)

abbrev pub slot_sector : Geom → ℕ → ℕ
slot_sector g slot = place_sector g (places.Slot slot)

-- a Read gave a header of this lock object
pub record ReadsHeader (g : Geom) (xs : List Exchange) (object : ℕ) (h : Header) : Type 0 where
  pub sector : Sector
  pub read : ReadAt xs (header_sector g object) sector
  pub spelled : header_in sector.bytes ≡ Some h
  pub same_object : h.object ≡ object

-- a Read gave an image of this slot
pub record ReadsSlot (g : Geom) (xs : List Exchange) (slot : ℕ) (image : Slot) : Type 0 where
  pub within : slot < g.slots
  pub sector : Sector
  pub read : ReadAt xs (slot_sector g slot) sector
  pub spelled : slot_in slot sector.bytes ≡ Some image

-- a Read gave a header of the lock object that names an owner
pub record ReadsOwner (g : Geom) (xs : List Exchange) (object : ℕ) (o : Owner) : Type 0 where
  pub header : Header
  pub reads : ReadsHeader g xs object header
  pub owned : header.owner ≡ Some o

-- a Read gave a header that names an owner of another slot, and a later one that slot, in the owner's generation
pub record ReadsOther (g : Geom) (own : Own) (xs : List Exchange) (object slot : ℕ) (image : Slot) : Type 0 where
  pub owner : Owner
  pub named : ReadsOwner g xs object owner
  pub same_slot : owner.slot ≡ slot
  pub other : slot ≢ own.slot
  pub shown : ReadsSlot g named.reads.read.later slot image
  pub same_generation : image.generation ≡ owner.generation

-- the owner's slot is live, and the newest Read gave it, when it wasn't stale
pub record IsHeld (g : Geom) (own : Own) (notes : List Note) (now : ℕ) (xs : List Exchange) (object slot : ℕ) (image : Slot) : Type 0 where
  pub by : ReadsOther g own xs object slot image
  pub newest : by.shown.read.later ≡ []
  pub live : image.state ≡ states.Live
  pub alive : IsStale notes slot by.shown.sector now → ⊥

-- the owner is being broken, and the newest Read gave the slot of the one that breaks it, which isn't over
pub record IsRecovering (g : Geom) (own : Own) (xs : List Exchange) (object slot : ℕ) (image breaker : Slot) : Type 0 where
  pub owner : ReadsOther g own xs object slot image
  pub by : ℕ
  pub generation : ℕ
  pub breaking : image.state ≡ states.Breaking by generation
  pub shown : ReadsSlot g owner.shown.read.later by breaker
  pub newest : shown.read.later ≡ []
  pub stands : breaker.generation ≤ generation

-- two Swaps of these sectors found another image in place; the newest exchange is the second of them, and what it verified was
-- shown after the first
pub record IsRaced (xs : List Exchange) (IsContended : ℕ → Type 0) : Type 0 where
  pub at : ℕ
  pub contended : IsContended at
  pub second : MissAt xs at
  pub newest : second.later ≡ []
  pub before : ℕ
  pub contended_before : IsContended before
  pub first : MissAt second.earlier before
  pub again : Contains (seen_of first.later) (at, second.verify)

-- the header of a lock object, or a slot
abbrev pub IsHeaderOrSlot : Geom → ℕ → ℕ → Type 0
IsHeaderOrSlot g object at = (at ≡ header_sector g object) ⊎ ((slot : ℕ) × (slot < g.slots) × (at ≡ slot_sector g slot))

-- the taking of a lock was raced: both after a Read of its header
pub record IsLockRaced (g : Geom) (xs : List Exchange) (object : ℕ) : Type 0 where
  pub raced : IsRaced xs (IsHeaderOrSlot g object)
  pub sector : Sector
  pub begun : ReadAt raced.first.earlier (header_sector g object) sector

-- that of a slot was: both were Swaps of the slot
abbrev pub IsSlotRaced : Geom → List Exchange → ℕ → Type 0
IsSlotRaced g xs slot = (slot < g.slots) × IsRaced xs (λ at. at ≡ slot_sector g slot)

-- the slot was shown, and wasn't free when it was shown last
pub record IsTaken (g : Geom) (xs : List Exchange) (slot : ℕ) : Type 0 where
  pub sector : Sector
  pub last : IsLast (seen_of xs) (slot_sector g slot) sector
  pub image : Slot
  pub spelled : slot_in slot sector.bytes ≡ Some image
  pub taken : image.state ≢ states.Free

-- so was each slot
abbrev pub HasNoSlot : Geom → List Exchange → Type 0
HasNoSlot g xs = (slot : ℕ) → slot < g.slots → IsTaken g xs slot

-- the newest Read is of a slot, and what it gave spells none
pub record IsBadSlot (g : Geom) (xs : List Exchange) (at : ℕ) : Type 0 where
  pub slot : ℕ
  pub within : slot < g.slots
  pub here : at ≡ slot_sector g slot
  pub sector : Sector
  pub read : ReadAt xs at sector
  pub newest : read.later ≡ []
  pub none : slot_in slot sector.bytes ≡ None

-- where the header of this lock object names an owner that there can't be: of a slot outside the volume, or of the own slot in a
-- later generation
pub data NamesNobody (g : Geom) (own : Own) (o : Owner) : Type 0 where
  Outside : g.slots ≤ o.slot → NamesNobody g own o
  Later : o.slot ≡ own.slot → own.generation < o.generation → NamesNobody g own o

-- or one whose slot, read after it, isn't as an owner's can be: not in that generation yet, free in it, or the own one and not over
pub data IsAtOdds (own : Own) (o : Owner) (image : Slot) : Type 0 where
  Behind : image.generation < o.generation → IsAtOdds own o image
  Empty : image.generation ≡ o.generation → image.state ≡ states.Free → IsAtOdds own o image
  Itself : o.slot ≡ own.slot → image.generation ≤ o.generation → IsAtOdds own o image

-- a sector that this call's planner was shown is among sectors that no image of a tree has
pub record IsOdd (setting : Setting) (own : Own) (xs : List Exchange) (call : CallOf Key) (first : List ℕ) (at : ℕ) : Type 0 where
  pub seen : SeenValue
  pub sees : Sees setting.geom own (setting.plans own.slot call) first xs seen
  pub shown : (sector : Sector) × (look_of seen at ≡ Some sector)
  pub none : (image : List Sector) (t : FileTree) → StandsFor setting.geom image t → Agrees seen image → ⊥

-- a slot that was read is lost: judged stale, or being broken by a generation that was shown to be over after it
pub data IsLost (g : Geom) (notes : List Note) (xs : List Exchange) (slot : ℕ) (image : Slot) (reads : ReadsSlot g xs slot image) : Type 0 where
  Stale : image.state ≡ states.Live → IsJudged notes slot reads.sector → IsLost g notes xs slot image reads
  Seized : (by generation : ℕ) → image.state ≡ states.Breaking by generation → SawOver g (seen_of reads.read.later) by generation
      → IsLost g notes xs slot image reads

-- why a sector that was read is told as damaged
pub data IsDamaged (setting : Setting) (own : Own) (notes : List Note) (xs : List Exchange) (IsPlanned : CallOf Key → List ℕ → Type 0) (at : ℕ) : Type 0 where
  BadHeader : (object : ℕ) (sector : Sector) → IsLock setting.geom object → at ≡ header_sector setting.geom object → ReadAt xs at sector
      → header_if_of object (header_in sector.bytes) ≡ None → IsDamaged setting own notes xs IsPlanned at
  BadSlot : (slot : ℕ) (sector : Sector) → slot < setting.geom.slots → at ≡ slot_sector setting.geom slot → ReadAt xs at sector
      → slot_in slot sector.bytes ≡ None → IsDamaged setting own notes xs IsPlanned at
  BadOwner : (object : ℕ) (o : Owner) → at ≡ header_sector setting.geom object → ReadsOwner setting.geom xs object o
      → NamesNobody setting.geom own o → IsDamaged setting own notes xs IsPlanned at
  BadOwnerSlot : (object : ℕ) (o : Owner) (image : Slot) (named : ReadsOwner setting.geom xs object o)
      → at ≡ header_sector setting.geom object
      → ReadsSlot setting.geom named.reads.read.later o.slot image → IsAtOdds own o image → IsDamaged setting own notes xs IsPlanned at
  BadBreaker : (slot by generation : ℕ) (image : Slot) → at ≡ slot_sector setting.geom slot → ReadsSlot setting.geom xs slot image
      → image.state ≡ states.Breaking by generation → (setting.geom.slots ≤ by) ⊎ (by ≡ slot) → IsDamaged setting own notes xs IsPlanned at
  BadIndex : (slot : ℕ) (image : Slot) (txn count : ℕ) (sector : Sector) → at ≡ place_sector setting.geom (places.Journal slot 31)
      → ReadsSlot setting.geom xs slot image → ReadAt xs at sector
      → ((index : Index) → IsIndex index → sector.bytes ≡ index_bytes index
      → HasReadIndex setting.geom xs slot image.generation txn count index → ⊥)
      → IsDamaged setting own notes xs IsPlanned at
  BadSight : (call : CallOf Key) (first : List ℕ) → IsPlanned call first → IsOdd setting own xs call first at
      → IsDamaged setting own notes xs IsPlanned at
  -- as long as hosts break no slot, one that is lost is told so
  Unbroken : (slot : ℕ) (image : Slot) (reads : ReadsSlot setting.geom xs slot image) → at ≡ slot_sector setting.geom slot → slot ≢ own.slot
      → IsLost setting.geom notes xs slot image reads → IsDamaged setting own notes xs IsPlanned at

-- the planner names the descriptor of a new object whose births are used up
pub record IsWornPlan (setting : Setting) (own : Own) (xs : List Exchange) (call : CallOf Key) (first : List ℕ) : Type 0 where
  pub seen : SeenValue
  pub sees : Sees setting.geom own (setting.plans own.slot call) first xs seen
  pub parts : Parts
  pub reads : ReadsParts setting.geom (look_of seen) parts
  pub object : ℕ
  pub planned : setting.plans own.slot call seen parts ≡ Worn object

-- a count that would be raised is at its end: that of a header to be taken, of a slot to be turned free, or of a new object's births
pub data IsWornOut (setting : Setting) (own : Own) (xs : List Exchange) (IsPlanned : CallOf Key → List ℕ → Type 0) : Type 0 where
  WornHeader : (object : ℕ) (h : Header) → ReadsHeader setting.geom xs object h
      → ((o : Owner) → h.owner ≡ Some o → IsOf o own.slot own.generation → ⊥) → 2 ^ 62 ≤ h.generation → IsWornOut setting own xs IsPlanned
  WornSlot : (slot : ℕ) (image : Slot) → ReadsSlot setting.geom xs slot image → 2 ^ 62 ≤ image.generation
      → IsWornOut setting own xs IsPlanned
  WornObject : (call : CallOf Key) (first : List ℕ) → IsPlanned call first → IsWornPlan setting own xs call first
      → IsWornOut setting own xs IsPlanned

-- What one turn does to the device and to what its host holds: made once, for all that is kept.
use Rattle.std.specs.Prelude.{◌≡◌, ◌≢◌, ℕ, ◌+◌, ◌*◌, ◌<◌, ◌≤◌, ◌⊎◌, true, List, [], ◌∷◌, slice_get, None, Some}
use Rattle.ds_base.specs.Exchanges.{seen_of}
use Rattle.ds_base.specs.declared.geometry.Geom.{Geom}
use Rattle.ds_base.specs.declared.sectors.Sector.{Sector}
use Rattle.ds_marks.specs.SlotIn.{slot_in}
use Rattle.ds_marks.specs.declared.slot.Slot.{Slot}
use Rattle.ds_marks.specs.declared.slot.SlotState.TheVariants.{Free, Live}
use Rattle.ds_conduct.specs.Digests.{Digest, Own, owed_without}
use Rattle.ds_conduct.specs.Guards.{MaySwap, MayWrite, Locks, Frees}
use Rattle.ds_conduct.specs.Judging.{IsJudged}
use Rattle.ds_conduct.specs.Marks.{phase, phase_at, rank, rank_at}
use Rattle.ds_conduct.specs.Settings.{Setting}

-- the host holds this generation of the slot
pub record HoldsGeneration (d : Digest) (a generation : ℕ) : Type 0 where
  pub own : Own
  pub holds : d.own ≡ Some own
  pub same_slot : own.slot ≡ a
  pub same_generation : own.generation ≡ generation

-- any sector after a step: as before, or swapped or written by the step's host
pub data SectorEffect (setting : Setting) (d : Digest) (now : ℕ) (old new : List Sector) (at : ℕ) : Type 0 where
  Untouched : slice_get new at ≡ slice_get old at → SectorEffect setting d now old new at
  Swapped : (verify fresh : Sector) → slice_get old at ≡ Some verify → slice_get new at ≡ Some fresh
      → MaySwap setting d now at verify fresh → SectorEffect setting d now old new at
  Written : (fresh : Sector) → slice_get new at ≡ Some fresh → MayWrite setting d now at fresh → SectorEffect setting d now old new at

-- what a Swap of slot a does, whatever its kind
pub record SlotMove (d : Digest) (a : ℕ) (verify : Sector) (x y : Slot) : Type 0 where
  -- the slot comes further, or stays as far
  pub rises : phase x ≤ phase y
  pub rank_rises : rank x ≤ rank y
  -- a Live image is a new one
  pub newer : y.state ≡ Live → rank x < rank y
  -- a Live image is changed by its holder, or broken where it was judged stale
  pub holder : x.state ≡ Live
      → HoldsGeneration d a x.generation ⊎ (IsJudged d.notes a verify × (3 * x.generation + 2 ≤ phase y))
  -- a Swap of the own slot finds the own generation Live
  pub own_live : (own : Own) → d.own ≡ Some own → own.slot ≡ a → phase x ≡ 3 * own.generation + 1
  -- a Free slot is entered in its generation
  pub enters : x.state ≡ Free → y.state ≡ Live → y.generation ≡ x.generation

-- slot a after a step
pub data SlotEffect (d : Digest) (old new : List Sector) (a : ℕ) : Type 0 where
  Still : slice_get new (2 + a) ≡ slice_get old (2 + a) → SlotEffect d old new a
  Moved : (verify fresh : Sector) (x y : Slot) → slice_get old (2 + a) ≡ Some verify → slice_get new (2 + a) ≡ Some fresh
      → slot_in a verify.bytes ≡ Some x → slot_in a fresh.bytes ≡ Some y → SlotMove d a verify x y → SlotEffect d old new a

-- a generation that a Swap has just entered or renewed
pub record IsFresh (g : Geom) (d : Digest) (now : ℕ) (old new : List Sector) (o : Own) : Type 0 where
  pub within : o.slot < g.slots
  pub last : o.last ≡ now
  pub slot : Slot
  pub spelled : slot_in o.slot o.image.bytes ≡ Some slot
  pub live : slot.state ≡ Live
  pub generation : slot.generation ≡ o.generation
  pub higher : rank_at old o.slot < rank slot
  pub there : slice_get new (2 + o.slot) ≡ Some o.image
  pub from : HoldsGeneration d o.slot o.generation ⊎ ((d.own ≡ None) × (phase_at old o.slot ≡ 3 * o.generation))

-- what the host holds after a turn: as before, and its slot wasn't touched; nothing; or a new image
pub data OwnChange (g : Geom) (now : ℕ) (old new : List Sector) (d d' : Digest) : Type 0 where
  SameOwn : d'.own ≡ d.own
      → ((o : Own) → d.own ≡ Some o → o.slot < g.slots → slice_get new (2 + o.slot) ≡ slice_get old (2 + o.slot))
      → OwnChange g now old new d d'
  NoOwn : d'.own ≡ None → OwnChange g now old new d d'
  FreshOwn : (o : Own) → d'.own ≡ Some o → IsFresh g d now old new o → OwnChange g now old new d d'

-- what the host has noted after a turn: the same, nothing, or one image more of a slot that isn't the own one
pub data NoteChange (now : ℕ) (old : List Sector) (d d' : Digest) : Type 0 where
  SameNotes : d'.notes ≡ d.notes → NoteChange now old d d'
  NoNotes : d'.notes ≡ [] → NoteChange now old d d'
  OneNote : (a : ℕ) (image : Sector) → slice_get old (2 + a) ≡ Some image → ((o : Own) → d.own ≡ Some o → o.slot ≢ a)
      → d'.notes ≡ record { slot = a; image = image; tick = now } ∷ d.notes → NoteChange now old d d'

-- the headers that the host owes after a turn: the same, none, one more, or one less
pub data OwedChange (setting : Setting) (now : ℕ) (old new : List Sector) (d d' : Digest) : Type 0 where
  SameOwed : d'.owed ≡ d.owed → OwedChange setting now old new d d'
  NoOwed : d'.own ≡ None → d'.owed ≡ [] → OwedChange setting now old new d d'
  OneOwed : (at : ℕ) (verify fresh : Sector) → slice_get old at ≡ Some verify → slice_get new at ≡ Some fresh
      → Locks setting d now at verify fresh
      → d'.owed ≡ record { at = at; image = fresh; is_new = true } ∷ owed_without at d.owed → OwedChange setting now old new d d'
  LessOwed : (at : ℕ) (verify fresh : Sector) → slice_get old at ≡ Some verify → slice_get new at ≡ Some fresh
      → Frees setting d now at verify fresh → d'.owed ≡ owed_without at d.owed → OwedChange setting now old new d d'

-- what the call under way has seen after a turn: the same, nothing, or one sector more
pub data SeenChange (new : List Sector) (d d' : Digest) : Type 0 where
  SameSeen : seen_of d'.exchanges ≡ seen_of d.exchanges → SeenChange new d d'
  NoSeen : seen_of d'.exchanges ≡ [] → SeenChange new d d'
  OneSeen : (at : ℕ) (image : Sector) → slice_get new at ≡ Some image → seen_of d'.exchanges ≡ (at, image) ∷ seen_of d.exchanges
      → SeenChange new d d'

-- What hosts hold and have read, against the device.
use Rattle.std.specs.Prelude.{◌≡◌, ◌≢◌, ℕ, ◌+◌, ◌*◌, ◌<◌, ◌≤◌, ◌⊎◌, List, slice_get, Some}
use Rattle.std.specs.List.{Contains}
use Rattle.ds_base.specs.Exchanges.{seen_of}
use Rattle.ds_base.specs.declared.geometry.Geom.{Geom}
use Rattle.ds_base.specs.declared.sectors.Sector.{Sector}
use Rattle.ds_marks.specs.SlotIn.{slot_in}
use Rattle.ds_marks.specs.declared.slot.Slot.{Slot}
use Rattle.ds_marks.specs.declared.slot.SlotState.TheVariants.{Live}
use Rattle.ds_watch.specs.Notes.{Note}
use Rattle.ds_conduct.specs.Digests.{Digest, Own}
use Rattle.ds_conduct.specs.Marks.{phase_of, phase_at, rank_of, rank_at}
use Rattle.ds_log.specs.Turns.{Turn, digest, sectors_after}

-- no two hosts hold the same generation of a slot
abbrev pub Apart : Digest → Digest → Type 0
Apart d k = (o p : Own) → d.own ≡ Some o → k.own ≡ Some p → o.slot ≡ p.slot → o.generation ≡ p.generation → ⊥

-- the generation is broken or over: its slot is further than Live in it
abbrev pub IsPast : List Sector → ℕ → ℕ → Type 0
IsPast sectors slot generation = 3 * generation + 2 ≤ phase_at sectors slot

-- the slot is in a later generation
abbrev pub IsOver : List Sector → ℕ → ℕ → Type 0
IsOver sectors slot generation = 3 * generation + 3 ≤ phase_at sectors slot

-- the own image is Live in the own generation, and stands on the device, or the generation is broken or over
pub record OwnStands (g : Geom) (sectors : List Sector) (own : Own) : Type 0 where
  pub within : own.slot < g.slots
  pub slot : Slot
  pub spelled : slot_in own.slot own.image.bytes ≡ Some slot
  pub live : slot.state ≡ Live
  pub generation : slot.generation ≡ own.generation
  pub there : (slice_get sectors (2 + own.slot) ≡ Some own.image) ⊎ IsPast sectors own.slot own.generation

-- one host against the device: what it holds stands, and no slot was shown to it further than it is
pub record Stands (g : Geom) (sectors : List Sector) (d : Digest) : Type 0 where
  pub own : (own : Own) → d.own ≡ Some own → OwnStands g sectors own
  pub seen : (a : ℕ) (image : Sector) → a < g.slots → Contains (seen_of d.exchanges) (2 + a, image)
      → phase_of (slot_in a image.bytes) ≤ phase_at sectors a

-- all hosts against the device, and each against the others
pub record SlotsHold (g : Geom) (start : List Sector) (turns : List Turn) : Type 0 where
  pub each : (i : ℕ) → Stands g (sectors_after start turns) (digest g i turns)
  pub apart : (i j : ℕ) → i ≢ j → Apart (digest g i turns) (digest g j turns)

-- what was noted of a slot is no newer than what stands there, and was noted before now
abbrev pub NotesHold : Geom → List Sector → ℕ → Digest → Type 0
NotesHold g sectors now d = (n : Note) → Contains d.notes n → n.slot < g.slots
    → (rank_of (slot_in n.slot n.image.bytes) ≤ rank_at sectors n.slot) × (n.tick ≤ now)

-- nobody noted the own image of another before it was written
abbrev pub LeaseHolds : Digest → Digest → Type 0
LeaseHolds d k = (own : Own) (n : Note) → d.own ≡ Some own → Contains k.notes n → n.slot ≡ own.slot → n.image ≡ own.image
    → own.last ≤ n.tick

-- the lease of a generation that is broken or over has passed
abbrev pub LastHolds : List Sector → ℕ → Digest → Type 0
LastHolds sectors now d = (own : Own) → d.own ≡ Some own
    → (own.last ≤ now) × (IsPast sectors own.slot own.generation → own.last + 16 ≤ now)

-- all that leases rest on
pub record LeasesHold (g : Geom) (start : List Sector) (turns : List Turn) (now : ℕ) : Type 0 where
  pub notes : (i : ℕ) → NotesHold g (sectors_after start turns) now (digest g i turns)
  pub lease : (i j : ℕ) → LeaseHolds (digest g i turns) (digest g j turns)
  pub last : (i : ℕ) → LastHolds (sectors_after start turns) now (digest g i turns)

-- What events make of a store and its image: each writes one sector, and only a commit changes the image.
use Rattle.std.specs.Prelude.{◌≡◌, ℕ, ◌<◌, false, List, [], ◌∷◌, ◌++◌, slice_get, slice_set, Option, Some, None}
use Rattle.ds_base.specs.Decoding.{IsDecoded}
use Rattle.ds_base.specs.declared.geometry.Geom.{Geom}
use Rattle.ds_base.specs.declared.names.Key.{Key}
use Rattle.ds_base.specs.declared.sectors.Sector.{Sector}
use Rattle.ds_layout.specs.Places.{IsPlace, place_sector}
use Rattle.ds_layout.specs.declared.places.Place.{Place}
use Rattle.ds_layout.specs.declared.places.Place.TheVariants as places
use Rattle.ds_marks.specs.declared.slot.Slot.{Slot}
use Rattle.ds_marks.specs.declared.slot.Journal.TheVariants.{Idle}
use Rattle.ds_tree.specs.Nodes.{FileTree}
use Rattle.ds_tree.specs.declared.calls.CallOf.{CallOf}
use Rattle.ds_tree.specs.declared.calls.TreeReply.{TreeReply}
use Rattle.ds_image_parts.specs.Logical.{laid_over}
use Rattle.ds_layout.specs.Metadata.{is_metadata}
use Rattle.ds_image_parts.specs.Pending.{Pair, AreOfJournal, ArePending}
use Rattle.ds_image_parts.specs.Readings.{SpellsSlot}
use Rattle.ds_image_laws.specs.Calls.{Commits, IsChange}
use Rattle.ds_image_laws.specs.Owners.{Names}
use Rattle.ds_image_laws.specs.Shown.{AreInPlace, IsIdle, IsHarmless}

-- a commit: whose, and of what
pub record Commit : Type 0 where
  pub slot : ℕ
  pub call : CallOf Key
  pub reply : TreeReply

-- the lock object is not one of who commits
abbrev pub IsFree : Geom → List Sector → Option Commit → ℕ → Type 0
IsFree g sectors None object = Unit {0}
IsFree g sectors (Some commit) object = ¬ Names g sectors commit.slot object

-- a slot is written that held one value, and holds another
pub record IsRewritten (g : Geom) (sectors : List Sector) (slot : ℕ) (s : Sector) (old new : Slot) : Type 0 where
  pub within : slot < g.slots
  pub was : IsDecoded (Some old) (SpellsSlot g (slice_get sectors) slot)
  pub now : IsDecoded (Some new) (SpellsSlot g (slice_get (slice_set sectors (place_sector g (places.Slot slot)) s)) slot)

pub data ImageStep (g : Geom) (sectors image : List Sector) (t : FileTree) : Option Commit → List Sector → List Sector → FileTree → Type 0 where
  -- volume information, the journal of an idle slot, a file block, a header that names no slot with pending pairs
  Elsewhere : (place : Place) (s : Sector) → IsPlace g place → is_metadata place ≡ false → IsHarmless g sectors place
      → ((n object : ℕ) → places.Header object ≡ place → Names g sectors n object → IsIdle g sectors n)
      → ImageStep g sectors image t None (slice_set sectors (place_sector g place) s) image t
  -- a pair of a slot's pending ones is written at its sector
  Placed : (slot : ℕ) (pairs : List Pair) (i : ℕ) (pair : Pair) → slot < g.slots → ArePending g sectors slot pairs → slice_get pairs i ≡ Some pair
      → ImageStep g sectors image t None (slice_set sectors pair.0 pair.1) image t
  -- a slot in the same generation with the same journal
  Renewed : (slot : ℕ) (s : Sector) (old new : Slot) → IsRewritten g sectors slot s old new → new.generation ≡ old.generation → new.journal ≡ old.journal
      → ImageStep g sectors image t None (slice_set sectors (place_sector g (places.Slot slot)) s) image t
  -- a slot whose pairs all stand at their sectors becomes idle, in whatever generation
  Retired : (slot : ℕ) (s : Sector) (old new : Slot) (pairs : List Pair) → IsRewritten g sectors slot s old new → ArePending g sectors slot pairs
      → AreInPlace sectors pairs → new.journal ≡ Idle
      → ImageStep g sectors image t None (slice_set sectors (place_sector g (places.Slot slot)) s) image t
  -- a slot's pairs become pending
  Committed : (slot : ℕ) (s : Sector) (old new : Slot) (call : CallOf Key) (pairs : List Pair) (reply : TreeReply) → IsRewritten g sectors slot s old new
      → old.journal ≡ Idle → new.generation ≡ old.generation → AreOfJournal g sectors slot new.generation new.journal pairs
      → (commits : Commits g sectors image t slot call pairs reply)
      → ImageStep g sectors image t (Some (record { slot = slot; call = call; reply = reply })) (slice_set sectors (place_sector g (places.Slot slot)) s) (laid_over image pairs) commits.u

-- the commits so far
abbrev pub with_commit : List Commit → Option Commit → List Commit
with_commit commits None = commits
with_commit commits (Some commit) = commits ++ commit ∷ []

pub data ImageRun (g : Geom) (sectors image : List Sector) (t : FileTree) : List Commit → List Sector → List Sector → FileTree → Type 0 where
  Begun : ImageRun g sectors image t [] sectors image t
  Went : (commits : List Commit) (one one_image : List Sector) (u : FileTree) (commit : Option Commit) (two two_image : List Sector) (v : FileTree)
      → ImageRun g sectors image t commits one one_image u → ImageStep g one one_image u commit two two_image v
      → ImageRun g sectors image t (with_commit commits commit) two two_image v

-- what calls make of a tree one after another: each is a change, with its reply
pub data DoAll (g : Geom) (t : FileTree) : List Commit → FileTree → Type 0 where
  DoNone : DoAll g t [] t
  DoOne : (commits : List Commit) (u : FileTree) (commit : Commit) (v : FileTree) → DoAll g t commits u → IsChange g u commit.call commit.reply v
      → DoAll g t (commits ++ commit ∷ []) v

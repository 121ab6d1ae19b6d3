-- What is proved of images of stores. The functions of src/ have these laws as clauses.
use Rattle.std.specs.Prelude.{◌≡◌, ◌≢◌, ℕ, ◌<◌, ◌≤◌, true, false, List, length, slice_get, slice_set, Option, Some}
use Rattle.std.specs.Option.{option_and_then}
use Rattle.ds_base.specs.Decoding.{IsDecoded}
use Rattle.ds_base.specs.Geometry.{IsGeom}
use Rattle.ds_base.specs.declared.geometry.Geom.{Geom}
use Rattle.ds_base.specs.declared.names.Key.{Key}
use Rattle.ds_base.specs.declared.sectors.Sector.{Sector}
use Rattle.ds_jrnl.specs.declared.redo.Redo.{Redo}
use Rattle.ds_layout.specs.Metadata.{IsMetadata, front_of}
use Rattle.ds_layout.specs.Places.{blocks_at, place_sector}
use Rattle.ds_layout.specs.declared.places.Place.TheVariants as places
use Rattle.ds_marks.specs.HeaderIn.{header_if_of, header_in}
use Rattle.ds_marks.specs.SlotIn.{slot_in}
use Rattle.ds_marks.specs.declared.slot.Slot.{Slot}
use Rattle.ds_marks.specs.declared.slot.Journal.TheVariants.{Idle, Committed}
use Rattle.ds_tree.specs.Nodes.{FileTree, fresh_tree, object_at}
use Rattle.ds_tree.specs.declared.calls.CallOf.{CallOf}
use Rattle.ds_tree.specs.declared.calls.TreeReply.{TreeReply}
use Rattle.ds_image.specs.Formatted.{IsFormatted}
use Rattle.ds_image.specs.Guards.{IsGuard}
use Rattle.ds_image_parts.specs.Logical.{IsLogical, laid_over}
use Rattle.ds_image_parts.specs.Looks.{Look, AreBlocks}
use Rattle.ds_image_parts.specs.Parts.{Parts}
use Rattle.ds_image_parts.specs.Pending.{Pair, ArePending}
use Rattle.ds_image.specs.Planning.{Answers, AllKeep}
use Rattle.ds_image_parts.specs.Readings.{ReadsParts, SpellsHeader, SpellsSlot}
use Rattle.ds_image.specs.SeenValues.{SeenValue, HoldsLock, look_of}
use Rattle.ds_image.specs.Sound.{StandsFor}
use Rattle.ds_image.specs.declared.asks.Ask.{Ask}
use Rattle.ds_image.specs.declared.asks.Ask.TheVariants.{Change, Done}
use Rattle.ds_tree.specs.Steps.{Does}
use Rattle.ds_image_laws.specs.Calls.{CallKnows}
use Rattle.ds_image_laws.specs.HostWrites.{IsReady}
use Rattle.ds_image_laws.specs.ImageSteps.{Commit, DoAll, ImageRun, ImageStep, IsFree, IsRewritten}
use Rattle.ds_image_laws.specs.Kept.{Knows, is_target}
use Rattle.ds_image_laws.specs.Owners.{Names}
use Rattle.ds_image_laws.specs.Shown.{AreInPlace, HoldsImage, SameMetadata}

-- Slots and headers

-- the slot that a sector spells is the one that its bytes give
abbrev pub SlotsByValue : Type 0
SlotsByValue = (g : Geom) (look : Look) (number : ℕ) → number < 256 → AreBlocks look
    → IsDecoded (option_and_then (λ (s : Sector). slot_in number s.bytes) (look (place_sector g (places.Slot number)))) (SpellsSlot g look number)

-- the header that a sector spells is the one that its bytes give, where it is that of the lock object
abbrev pub HeadersByValue : Type 0
HeadersByValue = (g : Geom) (look : Look) (object : ℕ) → AreBlocks look
    → IsDecoded (option_and_then (λ (s : Sector). header_if_of object (header_in s.bytes)) (look (place_sector g (places.Header object))))
    (SpellsHeader g look object)

-- Any lists of sectors

-- the second stands for the same trees as the first, spells the same parts, and has the same guards
pub record IsLike (g : Geom) (image other : List Sector) : Type 0 where
  pub stands : (t : FileTree) → StandsFor g image t → StandsFor g other t
  pub reads : (p : Parts) → ReadsParts g (slice_get image) p → ReadsParts g (slice_get other) p
  pub guards : (at object : ℕ) → IsGuard g (slice_get image) at object → IsGuard g (slice_get other) at object

-- lists with the same metadata are alike; the second has a sector for each number in front of the file blocks
abbrev pub AlikeByMetadata : Type 0
AlikeByMetadata = (g : Geom) (image other : List Sector) → blocks_at g ≤ length other → SameMetadata g image other → IsLike g image other

-- a sector has at most one guard, and only metadata have one
abbrev pub HaveOneGuard : Type 0
HaveOneGuard = (g : Geom) (look : Look) (at a b : ℕ) → IsGeom g → IsGuard g look at a → IsGuard g look at b → (a ≡ b) × IsMetadata g at

-- no sector is a target of both
abbrev pub ShareNoTarget : List Pair → List Pair → Type 0
ShareNoTarget ps qs = (at : ℕ) → is_target ps at ≡ true → is_target qs at ≡ true → ⊥

-- pairs without a common target are laid in any order
abbrev pub LaidInAnyOrder : Type 0
LaidInAnyOrder = (sectors : List Sector) (ps qs : List Pair) → ShareNoTarget ps qs
    → laid_over (laid_over sectors ps) qs ≡ laid_over (laid_over sectors qs) ps

-- pairs that stand at their sectors lay nothing
abbrev pub LaidInPlace : Type 0
LaidInPlace = (sectors : List Sector) (pairs : List Pair) → AreInPlace sectors pairs → laid_over sectors pairs ≡ sectors

-- Stores and what an event does to them

-- a whole store of the geometry, its image and the tree for which that stands; each pending target's guard is named by its slot
pub record HasImage (g : Geom) (sectors image : List Sector) (t : FileTree) : Type 0 where
  pub is_geom : IsGeom g
  pub whole : blocks_at g ≤ length sectors
  pub holds : HoldsImage g sectors (Names g sectors) image t

-- the pending pairs of two slots share no target
abbrev pub PendingApart : Type 0
PendingApart = (g : Geom) (sectors image : List Sector) (t : FileTree) → HasImage g sectors image t
    → (one other : ℕ) (ps qs : List Pair) → one < g.slots → other < g.slots → one ≢ other
    → ArePending g sectors one ps → ArePending g sectors other qs → ShareNoTarget ps qs

-- a sector of metadata that is in no pending list is the store's
abbrev pub FreeStands : Type 0
FreeStands = (g : Geom) (sectors image : List Sector) (t : FileTree) → HasImage g sectors image t
    → (at : ℕ) → IsMetadata g at → ((n : ℕ) (pairs : List Pair) → n < g.slots → ArePending g sectors n pairs → is_target pairs at ≡ false)
    → slice_get image at ≡ slice_get sectors at

-- after each step the store has the image that the step names
abbrev pub StepKeepsImage : Type 0
StepKeepsImage = (g : Geom) (sectors image : List Sector) (t : FileTree) (commit : Option Commit) (sectors' image' : List Sector) (u : FileTree)
    → HasImage g sectors image t → ImageStep g sectors image t commit sectors' image' u → HasImage g sectors' image' u

-- a sector's guard that is not one of who commits stays its guard, and the sector stays as it was
abbrev pub GuardsStay : Type 0
GuardsStay = (g : Geom) (sectors image : List Sector) (t : FileTree) (commit : Option Commit) (sectors' image' : List Sector) (u : FileTree)
    → HasImage g sectors image t → ImageStep g sectors image t commit sectors' image' u
    → (at object : ℕ) → IsFree g sectors commit object → IsGuard g (slice_get image) at object
    → IsGuard g (slice_get image') at object × (slice_get image' at ≡ slice_get image at)

-- what a call has seen under its locks is the image's still, and its locks protect it still, where another slot commits or none
abbrev pub SeenStays : Type 0
SeenStays = (g : Geom) (sectors image : List Sector) (t : FileTree) (commit : Option Commit) (sectors' image' : List Sector) (u : FileTree)
    → HasImage g sectors image t → ImageStep g sectors image t commit sectors' image' u
    → (number : ℕ) (seen : SeenValue) → CallKnows g sectors image number seen → ((c : Commit) → commit ≡ Some c → c.slot ≢ number)
    → Knows g (HoldsLock seen) (look_of seen) image'

-- an object whose lock is not one of who commits is the same in both trees
abbrev pub ObjectsStay : Type 0
ObjectsStay = (g : Geom) (sectors image : List Sector) (t : FileTree) (commit : Option Commit) (sectors' image' : List Sector) (u : FileTree)
    → HasImage g sectors image t → ImageStep g sectors image t commit sectors' image' u
    → (object : ℕ) → IsFree g sectors commit object → object_at u object ≡ object_at t object

-- From the formatted volume on

-- the formatted volume has its front as image, which stands for the tree of the root alone
abbrev pub FormattedHasImage : Type 0
FormattedHasImage = (g : Geom) (volume : List ℕ) (sectors : List Sector) → IsGeom g → IsFormatted g volume sectors
    → HasImage g sectors (front_of g sectors) (fresh_tree g)

-- a store that has an image has a logical image, and each logical image of it stands for the tree
pub record StandsLogically (g : Geom) (sectors : List Sector) (t : FileTree) : Type 0 where
  pub logical : List Sector
  pub is_logical : IsLogical g sectors logical
  pub each : (other : List Sector) → IsLogical g sectors other → StandsFor g other t

abbrev pub LogicalStands : Type 0
LogicalStands = (g : Geom) (sectors image : List Sector) (t : FileTree) → HasImage g sectors image t → StandsLogically g sectors t

-- after any steps the store has an image, and the tree is what the committed calls made of the first one after another
abbrev pub RunDoesAll : Type 0
RunDoesAll = (g : Geom) (sectors image : List Sector) (t : FileTree) (commits : List Commit) (sectors' image' : List Sector) (u : FileTree)
    → HasImage g sectors image t → ImageRun g sectors image t commits sectors' image' u → HasImage g sectors' image' u × DoAll g t commits u

-- what a lawful planner answers to what a call knows is right at the image of this moment: a reply is what the call does, and
-- a change, once its pairs stand in the slot's journal and the slot is committed, is a step
pub record PlansRightly (g : Geom) (sectors image : List Sector) (t : FileTree) (number : ℕ) (call : CallOf Key) (answer : Ask) : Type 0 where
  pub done : (reply : TreeReply) → answer ≡ Done reply → Does g t call reply t
  pub committed : (redo : Redo) (reply : TreeReply) (s : Sector) (old new : Slot) (txn : ℕ) → answer ≡ Change redo reply
      → IsRewritten g sectors number s old new → old.journal ≡ Idle → new.generation ≡ old.generation
      → new.journal ≡ Committed txn (length redo.pairs.items) → IsReady g sectors number new.generation txn redo.pairs.items
      → (u : FileTree) × ImageStep g sectors image t (Some (record { slot = number; call = call; reply = reply }))
      (slice_set sectors (place_sector g (places.Slot number)) s) (laid_over image redo.pairs.items) u

abbrev pub PlannersAreRight : Type 0
PlannersAreRight = (g : Geom) (sectors image : List Sector) (t : FileTree) (number : ℕ) (seen : SeenValue) (call : CallOf Key) (answers : Answers) (p : Parts)
    → HasImage g sectors image t → CallKnows g sectors image number seen → AllKeep g call answers → ReadsParts g (look_of seen) p
    → PlansRightly g sectors image t number call (answers seen p)

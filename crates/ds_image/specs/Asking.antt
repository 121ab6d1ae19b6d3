-- What a planner may ask for, and what its answers are right for.
use Rattle.std.specs.Prelude.{All, ◌≡◌, ℕ, ◌^◌, ◌<◌, ◌≤◌, Bool, true, false, List, [], length, map, slice_get, Some, None, IsSome, ⊤}
use Rattle.std.specs.List.Sorted.{IsStrictlyIncreasing}
use Rattle.ds_base.specs.Geometry.{items_of}
use Rattle.ds_base.specs.declared.geometry.Geom.{Geom}
use Rattle.ds_base.specs.declared.geometry.Kind.TheVariants.{Fb}
use Rattle.ds_base.specs.declared.names.Key.{Key}
use Rattle.ds_base.specs.declared.sectors.Sector.{Sector}
use Rattle.ds_fd.specs.declared.body.Body.{Body}
use Rattle.ds_layout.specs.Places.{IsLock}
use Rattle.ds_tree.specs.Nodes.{FileTree}
use Rattle.ds_tree.specs.Steps.{Does, IsNextLife, has_change, refusal}
use Rattle.ds_tree.specs.declared.calls.CallOf.{CallOf}
use Rattle.ds_tree.specs.declared.calls.CallOf.TheVariants.{Mkdir, Create}
use Rattle.ds_tree.specs.declared.calls.TreeReply.{TreeReply}
use Rattle.ds_tree.specs.declared.calls.TreeReply.TheVariants.{AtBlock}
use Rattle.ds_image.specs.Guards.{GuardedBy}
use Rattle.ds_image.specs.Locks.{IsClear}
use Rattle.ds_image_parts.specs.Logical.{laid_over}
use Rattle.ds_image_parts.specs.Looks.{IsBlock}
use Rattle.ds_layout.specs.Metadata.{IsMetadata}
use Rattle.ds_image_parts.specs.Parts.{Parts, part_at}
use Rattle.ds_image_parts.specs.Pending.{Pair}
use Rattle.ds_image.specs.SeenValues.{SeenValue, HoldsLock, has_lock, look_of, with_lock, with_sector}
use Rattle.ds_image.specs.Sound.{StandsFor}
use Rattle.ds_image.specs.declared.asks.Ask.{Ask}
use Rattle.ds_image.specs.declared.asks.Ask.TheVariants.{Lock, Read, Odd, Worn, Done, Change}

-- the sectors that the call has read are those of the image
abbrev pub Agrees : SeenValue → List Sector → Type 0
Agrees seen image = (at : ℕ) (s : Sector) → look_of seen at ≡ Some s → slice_get image at ≡ Some s

-- the call holds the lock object that protects the sector in the image
abbrev pub IsGuarded : Geom → SeenValue → List Sector → ℕ → Type 0
IsGuarded g seen image = GuardedBy g (slice_get image) (HoldsLock seen)

-- 1 to 31 sectors of metadata, each number below the next
pub record AreTargets (g : Geom) (targets : List ℕ) : Type 0 where
  pub some : 1 ≤ length targets
  pub most : length targets ≤ 31
  pub rising : IsStrictlyIncreasing targets
  pub metadata : All (IsMetadata g) targets

abbrev pub targets_of : List Pair → List ℕ
targets_of pairs = map (λ (pair : Pair). pair.0) pairs

-- whether the call makes a new object
abbrev pub makes_object : CallOf Key → Bool
makes_object (Mkdir dir name) = true
makes_object (Create dir name) = true
makes_object _ = false

-- the descriptor of a new object, which the call holds: its bit is clear in a bitmap that was seen, it is not in use, and its last
-- birth is the greatest that a body can hold
pub record IsWorn (g : Geom) (call : CallOf Key) (seen : SeenValue) (p : Parts) (object : ℕ) : Type 0 where
  pub makes : makes_object call ≡ true
  pub clear : IsClear g p object
  pub held : has_lock seen object ≡ true
  pub body : Body
  pub there : part_at p.bodies object ≡ Some body
  pub unused : body.kind ≡ None
  pub last : body.birth ≡ 2 ^ 62

-- a block in a reply is one of the geometry
abbrev pub HasItsBlock : Geom → TreeReply → Type 0
HasItsBlock g (AtBlock block) = block < items_of g Fb
HasItsBlock g _ = ⊤

-- a sector to be read is metadata that was not read before, and the call holds its guard by each image that agrees
pub record IsReadable (g : Geom) (seen : SeenValue) (at : ℕ) : Type 0 where
  pub metadata : IsMetadata g at
  pub unread : look_of seen at ≡ None
  pub guarded : (image : List Sector) (t : FileTree) → StandsFor g image t → Agrees seen image → IsGuarded g seen image at

-- what is asked, whatever was seen, which spells these parts: a lock object that is not held, a sector that can be read, a
-- sector that was read, the descriptor of a new object that has no birth left, a reply, or pairs for metadata
abbrev pub HasForm : Geom → CallOf Key → SeenValue → Parts → Ask → Type 0
HasForm g call seen p (Lock object) = IsLock g object × (has_lock seen object ≡ false)
HasForm g call seen p (Read at) = IsReadable g seen at
HasForm g call seen p (Odd at) = IsSome (look_of seen at)
HasForm g call seen p (Worn object) = IsWorn g call seen p object
HasForm g call seen p (Done reply) = HasItsBlock g reply
HasForm g call seen p (Change redo reply) = AreTargets g (targets_of redo.pairs.items)

-- the call is not refused at t and changes it; the pairs make of an image that stands for t one that stands for what the call makes
-- of t, where a new object has the next life of its number; and the call holds the guard of each target in both
pub record IsRightChange (g : Geom) (call : CallOf Key) (seen : SeenValue) (image : List Sector) (t : FileTree) (pairs : List Pair) (reply : TreeReply) : Type 0 where
  pub u : FileTree
  pub stands : StandsFor g (laid_over image pairs) u
  pub does : Does g t call reply u
  pub unrefused : refusal g t call ≡ None
  pub changes : has_change t call ≡ true
  pub next_life : IsNextLife t reply
  pub before : All (IsGuarded g seen image) (targets_of pairs)
  pub after : All (IsGuarded g seen (laid_over image pairs)) (targets_of pairs)

-- what is asked where the image stands for t and agrees with what was seen: a reply is what the call does, and nothing is odd
abbrev pub IsRight : Geom → CallOf Key → SeenValue → List Sector → FileTree → Ask → Type 0
IsRight g call seen image t (Done reply) = Does g t call reply t
IsRight g call seen image t (Change redo reply) = IsRightChange g call seen image t redo.pairs.items reply
IsRight g call seen image t (Odd at) = ⊥
IsRight g call seen image t _ = ⊤

-- what a planner keeps in each answer
pub record Keeps (g : Geom) (call : CallOf Key) (seen : SeenValue) (p : Parts) (ask : Ask) : Type 0 where
  pub form : HasForm g call seen p ask
  pub right : (image : List Sector) (t : FileTree) → StandsFor g image t → Agrees seen image → IsRight g call seen image t ask

-- what may be seen at an answer: at first at most one lock and no sector, and then what was asked for, one after another
pub data Reached (Asks : SeenValue → Ask → Type 0) : SeenValue → Type 0 where
  Start : (locks : List ℕ) → length locks ≤ 1 → Reached Asks (record { locks = locks; sectors = [] })
  Locked : (seen : SeenValue) (object : ℕ) → Reached Asks seen → Asks seen (Lock object) → Reached Asks (with_lock seen object)
  Given : (seen : SeenValue) (at : ℕ) (s : Sector) → Reached Asks seen → Asks seen (Read at) → IsBlock s.bytes → Reached Asks (with_sector seen at s)

-- with what is asked for there are at most 24 locks and 256 sectors
abbrev pub IsFew : SeenValue → Ask → Type 0
IsFew seen (Lock object) = (length seen.locks < 24) × (length seen.sectors ≤ 256)
IsFew seen (Read at) = (length seen.locks ≤ 24) × (length seen.sectors < 256)
IsFew seen _ = (length seen.locks ≤ 24) × (length seen.sectors ≤ 256)

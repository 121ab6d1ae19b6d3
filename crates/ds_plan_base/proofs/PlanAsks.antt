-- What a planner may ask for, and what it then knows.
use Rattle.std.specs.Prelude.{◌≡◌, ℕ, ◌<◌, true, false, List, length, slice_get, Some, None, IsSome}
use Rattle.ds_base.specs.Geometry.{clusters_of}
use Rattle.ds_base.specs.declared.geometry.Geom.{Geom}
use Rattle.ds_base.specs.declared.geometry.Kind.{Kind}
use Rattle.ds_base.specs.declared.names.Key.{Key}
use Rattle.ds_base.specs.declared.sectors.Sector.{Sector}
use Rattle.ds_bitmap.specs.Bits.{Bitmap, IsBits}
use Rattle.ds_dir.specs.declared.sub_block.SubBlock.{SubBlock}
use Rattle.ds_fd.specs.declared.body.Body.{Body}
use Rattle.ds_image.specs.Asking.{Agrees, AreTargets, IsReadable, IsRightChange, IsWorn, targets_of}
use Rattle.ds_image_parts.specs.Objects.{subs_of, used_rooms}
use Rattle.ds_image_parts.specs.Parts.{Parts, part_at, maps_of}
use Rattle.ds_image_parts.specs.Pending.{Pair}
use Rattle.ds_image.specs.SeenValues.{SeenValue, has_lock, look_of}
use Rattle.ds_image.specs.Sound.{StandsFor}
use Rattle.ds_image.specs.declared.asks.Ask.{Ask}
use Rattle.ds_image.specs.declared.asks.Ask.TheVariants.{Lock, Read, Odd, Worn, Done, Change}
use Rattle.ds_layout.specs.Places.{IsLock, cluster_lock, place_sector}
use Rattle.ds_layout.specs.declared.places.Place.TheVariants as places
use Rattle.ds_plan_base.specs.Items.{IsFreeItem, first_clear}
use Rattle.ds_plan_base.specs.declared.items.FreeItem.{FreeItem}
use Rattle.ds_plan_base.proofs.DirAsks.{FitsNone, IsKnown}
use Rattle.ds_plan_base.proofs.DirSeen.{HasDir, HasSub}
use Rattle.ds_image_parts.specs.Objects.{entry_named}
use Rattle.ds_image.specs.Locks.{MayLock}
use Rattle.ds_tree.specs.Nodes.{FileTree}
use Rattle.ds_tree.specs.declared.calls.CallOf.{CallOf}
use Rattle.ds_tree.specs.declared.calls.TreeReply.{TreeReply}

-- a lock that may be asked for
pub record IsPlanLock (g : Geom) (slot : ℕ) (call : CallOf Key) (MayHold : SeenValue → Parts → ℕ → Type 0) (seen : SeenValue) (p : Parts) (object : ℕ) : Type 0 where
  pub is_lock : IsLock g object
  pub free : has_lock seen object ≡ false
  pub allowed : MayLock g slot call p object
  pub one : MayHold seen p object

-- a sector that may be read
pub record IsPlanRead (g : Geom) (MayRead : SeenValue → Parts → ℕ → Type 0) (seen : SeenValue) (p : Parts) (at : ℕ) : Type 0 where
  pub readable : IsReadable g seen at
  pub one : MayRead seen p at

-- pairs for metadata, which are right for each image that agrees with what was seen
pub record IsPlanChange (g : Geom) (call : CallOf Key) (seen : SeenValue) (pairs : List Pair) (reply : TreeReply) : Type 0 where
  pub targets : AreTargets g (targets_of pairs)
  pub right : (image : List Sector) (t : FileTree) → StandsFor g image t → Agrees seen image → IsRightChange g call seen image t pairs reply

-- all that is asked for is good: locks and sectors are such as the planner may come to hold and read
abbrev pub PlanAsks : Geom → ℕ → CallOf Key → (SeenValue → Parts → ℕ → Type 0) → (SeenValue → Parts → ℕ → Type 0) → SeenValue → Parts → Ask → Type 0
PlanAsks g slot call MayHold MayRead seen p (Lock object) = IsPlanLock g slot call MayHold seen p object
PlanAsks g slot call MayHold MayRead seen p (Read at) = IsPlanRead g MayRead seen p at
PlanAsks g slot call MayHold MayRead seen p (Odd at) = FitsNone g seen at
PlanAsks g slot call MayHold MayRead seen p (Worn object) = IsWorn g call seen p object
PlanAsks g slot call MayHold MayRead seen p (Done reply) = IsKnown g call seen reply
PlanAsks g slot call MayHold MayRead seen p (Change redo reply) = IsPlanChange g call seen redo.pairs.items reply

-- the call holds a cluster, and has read its bitmap
pub record HasMap (g : Geom) (seen : SeenValue) (p : Parts) (kind : Kind) (cluster : ℕ) (map : Bitmap) : Type 0 where
  pub inside : cluster < clusters_of g kind
  pub held : has_lock seen (cluster_lock kind cluster) ≡ true
  pub read : IsSome (look_of seen (place_sector g (places.Bitmap kind cluster)))
  pub there : part_at (maps_of p kind) cluster ≡ Some map
  pub is_bits : IsBits g kind cluster map

-- and no item of it is free
pub record HasFull (g : Geom) (seen : SeenValue) (p : Parts) (kind : Kind) (cluster : ℕ) : Type 0 where
  pub map : Bitmap
  pub has : HasMap g seen p kind cluster map
  pub full : first_clear map.used ≡ None

-- or this is its first
pub record HasItem (g : Geom) (seen : SeenValue) (p : Parts) (kind : Kind) (free : FreeItem) : Type 0 where
  pub has : HasMap g seen p kind free.cluster free.map
  pub first : first_clear free.map.used ≡ Some free.item
  pub is_free : IsFreeItem g kind free

-- a directory was seen whole, and has no entry of the name and so many entries
pub record HasWhole (g : Geom) (seen : SeenValue) (p : Parts) (dir : Key) (name : List ℕ) (b : Body) : Type 0 where
  pub has : HasDir g seen p dir b
  pub subs : (i n : ℕ) → slice_get (subs_of (Some b)) i ≡ Some n → (block : SubBlock) × HasSub g seen p n block
  pub lacks : entry_named (used_rooms p (subs_of (Some b))) name ≡ None
  pub few : length (used_rooms p (subs_of (Some b))) < 384

-- Which locks a planner may ask for, by the call and by what it has seen: the parts p that the sectors spell which were read.
use Rattle.std.specs.Prelude.{◌≡◌, ◌≢◌, ⊤, ℕ, ◌+◌, ◌-◌, ◌*◌, ◌/◌, ◌%◌, ◌<◌, ◌≤◌, not, nat_le, if◌then◌else◌, List, [], ◌∷◌, length, slice_get, slice_index, Option, Some, None, IsSome, false}
use Rattle.std.specs.List.{Contains, count_by, sum_by, range_with_len}
use Rattle.ds_base.specs.declared.geometry.Geom.{Geom}
use Rattle.ds_base.specs.declared.geometry.Kind.{Kind}
use Rattle.ds_base.specs.declared.geometry.Kind.TheVariants.{Fd, Sb, Pb, Fb}
use Rattle.ds_base.specs.declared.names.Key.{Key}
use Rattle.ds_base.specs.declared.names.NodeKind.{NodeKind}
use Rattle.ds_base.specs.declared.names.NodeKind.TheVariants as kinds
use Rattle.ds_base.specs.Geometry.{clusters_of, per_cluster, items_of}
use Rattle.ds_bitmap.specs.Bits.{Bitmap}
use Rattle.ds_dir.specs.declared.sub_block.Entry.{Entry}
use Rattle.ds_fd.specs.declared.body.Body.{Body}
use Rattle.ds_image_parts.specs.Objects.{subs_of, ptrs_of, addresses_in, used_rooms, entry_named}
use Rattle.ds_image_parts.specs.Parts.{Parts, part_at, maps_of, used_bits}
use Rattle.ds_image.specs.declared.asks.Ask.{Ask}
use Rattle.ds_image.specs.declared.asks.Ask.TheVariants.{Lock}
use Rattle.ds_layout.specs.Places.{cluster_lock}
use Rattle.ds_tree.specs.Counts.{pointer_blocks}
use Rattle.ds_tree.specs.declared.calls.CallOf.{CallOf}
use Rattle.ds_tree.specs.declared.calls.CallOf.TheVariants as calls

-- What was seen

-- the body of a key's object: it is of the kind, in the key's life
pub record SeesBody (p : Parts) (key : Key) (kind : NodeKind) (b : Body) : Type 0 where
  pub there : part_at p.bodies key.object ≡ Some b
  pub life : b.birth ≡ key.birth
  pub is_kind : b.kind ≡ Some kind

-- the entries of a directory's body, as far as its sub-blocks were seen
abbrev pub entries_seen : Parts → Body → List Entry
entries_seen p b = used_rooms p (subs_of (Some b))

-- a directory of which all sub-blocks were seen
pub record SeesWhole (p : Parts) (dir : Key) (b : Body) : Type 0 where
  pub body : SeesBody p dir kinds.Dir b
  pub subs : (i n : ℕ) → slice_get (subs_of (Some b)) i ≡ Some n → IsSome (part_at p.subs n)

-- the entry of a name in a directory, as far as its sub-blocks were seen
pub record SeesEntry (p : Parts) (dir : Key) (name : List ℕ) (e : Entry) : Type 0 where
  pub body : Body
  pub in_dir : SeesBody p dir kinds.Dir body
  pub first : entry_named (entries_seen p body) name ≡ Some e

-- that entry is of this kind, and so is the body of its object
pub record SeesNamed (p : Parts) (dir : Key) (name : List ℕ) (kind : NodeKind) (e : Entry) (b : Body) : Type 0 where
  pub entry : SeesEntry p dir name e
  pub is_kind : e.kind ≡ kind
  pub body : SeesBody p e.key kind b

-- a directory that was seen whole and has no entry of this name
pub record LacksEntry (p : Parts) (dir : Key) (name : List ℕ) (b : Body) : Type 0 where
  pub whole : SeesWhole p dir b
  pub none : entry_named (entries_seen p b) name ≡ None

-- the clear bits of a bitmap
abbrev pub clear_in : Option Bitmap → ℕ
clear_in map = count_by not (used_bits map)

-- at least so many items of a kind are free, by the bitmaps that were seen
abbrev pub SeesFree : Parts → Kind → ℕ → Type 0
SeesFree p kind count = count ≤ sum_by clear_in (maps_of p kind)

-- block i of a file, where the sector that has its address was seen
abbrev pub block_seen : Parts → Body → ℕ → Option ℕ
block_seen p b i =
    if nat_le b.count 96 then slice_get b.addresses i
    else slice_get (addresses_in (part_at p.ptrs (slice_index b.addresses (i / 128)))) (i % 128)

-- Items that a call gives up

-- an item of a file past a number of blocks: a block, or a pointer block that so many blocks don't need
pub data IsPast (p : Parts) (b : Body) (blocks : ℕ) : Kind → ℕ → Type 0 where
  block_past : (i n : ℕ) → blocks ≤ i → i < b.count → block_seen p b i ≡ Some n → IsPast p b blocks Fb n
  pointer_past : (i n : ℕ) → pointer_blocks blocks ≤ i → slice_get (ptrs_of (Some b)) i ≡ Some n → IsPast p b blocks Pb n

-- a file that is removed gives up its descriptor, and all its blocks and pointer blocks
pub data GivesFile (p : Parts) (dir : Key) (name : List ℕ) : Kind → ℕ → Type 0 where
  file_itself : (e : Entry) (b : Body) → SeesNamed p dir name kinds.File e b → GivesFile p dir name Fd e.key.object
  item_of_file : (e : Entry) (b : Body) (kind : Kind) (n : ℕ) → SeesNamed p dir name kinds.File e b → IsPast p b 0 kind n
      → GivesFile p dir name kind n

-- the directory of a name, which was seen whole and has no entry
pub record SeesEmpty (p : Parts) (dir : Key) (name : List ℕ) (e : Entry) (b : Body) : Type 0 where
  pub named : SeesNamed p dir name kinds.Dir e b
  pub whole : SeesWhole p e.key b
  pub empty : entries_seen p b ≡ []

-- a directory that is removed gives up its descriptor and its sub-blocks
pub data GivesDir (p : Parts) (dir : Key) (name : List ℕ) : Kind → ℕ → Type 0 where
  dir_itself : (e : Entry) (b : Body) → SeesEmpty p dir name e b → GivesDir p dir name Fd e.key.object
  sub_block_of_dir : (e : Entry) (b : Body) (n : ℕ) → SeesEmpty p dir name e b → Contains (subs_of (Some b)) n → GivesDir p dir name Sb n

-- a file that shrinks, by at most 1,024 blocks, gives up what is past its new size
pub record GivesTail (p : Parts) (file : Key) (size : ℕ) (kind : Kind) (n : ℕ) : Type 0 where
  pub body : Body
  pub in_file : SeesBody p file kinds.File body
  pub not_too_much : body.count ≤ size + 1024
  pub past : IsPast p body size kind n

-- the call gives up this item
abbrev pub GivesUp : Parts → CallOf Key → Kind → ℕ → Type 0
GivesUp p (calls.Remove dir name) kind n = GivesFile p dir name kind n
GivesUp p (calls.Rmdir dir name) kind n = GivesDir p dir name kind n
GivesUp p (calls.Resize file size) kind n = GivesTail p file size kind n
GivesUp p _ kind n = ⊥

-- Items that a call needs

-- a directory may get an entry of this name: it was seen whole, without this name and with fewer than 384 entries
pub record TakesName (p : Parts) (dir : Key) (name : List ℕ) (b : Body) : Type 0 where
  pub lacks : LacksEntry p dir name b
  pub not_full : length (entries_seen p b) < 384

-- every room of a directory is used
abbrev pub IsFilled : Parts → Body → Type 0
IsFilled p b = 4 * b.count ≤ length (entries_seen p b)

-- a new object needs one descriptor, and where every room is used one sub-block after a descriptor that is free
pub data NeedsForNew (p : Parts) (dir : Key) (name : List ℕ) : Kind → ℕ → Type 0 where
  one_descriptor : (b : Body) → TakesName p dir name b → NeedsForNew p dir name Fd 1
  one_sub_block : (b : Body) → TakesName p dir name b → SeesFree p Fd 1 → IsFilled p b → NeedsForNew p dir name Sb 1

-- a file that gets its name in another directory needs one sub-block where every room there is used
pub data NeedsForName (p : Parts) (dir : Key) (name : List ℕ) (to : Key) (fresh : List ℕ) : Kind → ℕ → Type 0 where
  sub_block_for_name : (e : Entry) (b : Body) → dir.object ≢ to.object → SeesEntry p dir name e → e.kind ≡ kinds.File
      → TakesName p to fresh b → IsFilled p b → NeedsForName p dir name to fresh Sb 1

-- a file may get this size: at most 12,288 blocks, and at most 1,024 more than before
pub record MayGrow (p : Parts) (file : Key) (size : ℕ) (b : Body) : Type 0 where
  pub in_file : SeesBody p file kinds.File b
  pub not_too_big : size ≤ 12288
  pub not_too_much : size ≤ b.count + 1024

-- a file that grows needs blocks, and where as many are free as it needs, the pointer blocks for them
pub data NeedsForSize (p : Parts) (file : Key) (size : ℕ) : Kind → ℕ → Type 0 where
  blocks_for_size : (b : Body) → MayGrow p file size b → NeedsForSize p file size Fb (size - b.count)
  pointers_for_size : (b : Body) → MayGrow p file size b → SeesFree p Fb (size - b.count)
      → NeedsForSize p file size Pb (pointer_blocks size - pointer_blocks b.count)

-- the call needs so many new items of the kind, and no refusal before that for want of them holds
abbrev pub Needs : Parts → CallOf Key → Kind → ℕ → Type 0
Needs p (calls.Mkdir dir name) kind count = NeedsForNew p dir name kind count
Needs p (calls.Create dir name) kind count = NeedsForNew p dir name kind count
Needs p (calls.Rename dir name to fresh) kind count = NeedsForName p dir name to fresh kind count
Needs p (calls.Resize file size) kind count = NeedsForSize p file size kind count
Needs p _ kind count = ⊥

-- the cluster that is tried after this many others: they are tried from the slot's number on, and round
abbrev pub cluster_tried : Geom → ℕ → Kind → ℕ → ℕ
cluster_tried g slot kind tried = (slot + tried) % clusters_of g kind

-- the bitmap of that cluster, where it was seen
abbrev pub map_tried : Geom → ℕ → Parts → Kind → ℕ → Option Bitmap
map_tried g slot p kind tried = part_at (maps_of p kind) (cluster_tried g slot kind tried)

-- the cluster is the next to be tried: all before it were seen, and have fewer free items than are needed
pub record IsNext (g : Geom) (slot : ℕ) (p : Parts) (kind : Kind) (count cluster : ℕ) : Type 0 where
  pub tried : ℕ
  pub within : tried < clusters_of g kind
  pub here : cluster ≡ cluster_tried g slot kind tried
  pub before : (i : ℕ) → i < tried → IsSome (map_tried g slot p kind i)
  pub too_few : sum_by (λ i. clear_in (map_tried g slot p kind i)) (range_with_len 0 tried) < count

-- The locks

-- the keys that a call names
abbrev pub keys_of : CallOf Key → List Key
keys_of (calls.Mkdir dir name) = dir ∷ []
keys_of (calls.Create dir name) = dir ∷ []
keys_of (calls.Lookup dir name) = dir ∷ []
keys_of (calls.List dir after) = dir ∷ []
keys_of (calls.Stat key) = key ∷ []
keys_of (calls.Map file page) = file ∷ []
keys_of (calls.Resize file size) = file ∷ []
keys_of (calls.Remove dir name) = dir ∷ []
keys_of (calls.Rmdir dir name) = dir ∷ []
keys_of (calls.Rename dir name to fresh) = dir ∷ to ∷ []
keys_of (calls.OpenFile file) = file ∷ []
keys_of (calls.At file index) = file ∷ []

-- the entry with the name of a call that removes it
abbrev pub RemovesEntry : Parts → CallOf Key → Entry → Type 0
RemovesEntry p (calls.Remove dir name) e = SeesEntry p dir name e
RemovesEntry p (calls.Rmdir dir name) e = SeesEntry p dir name e
RemovesEntry p _ e = ⊥

-- the call makes a new object, for which a descriptor is wanted
abbrev pub WantsDescriptor : Parts → CallOf Key → Type 0
WantsDescriptor p (calls.Mkdir dir name) = NeedsForNew p dir name Fd 1
WantsDescriptor p (calls.Create dir name) = NeedsForNew p dir name Fd 1
WantsDescriptor p _ = ⊥

-- the bit of a descriptor is clear in a bitmap that was seen
abbrev pub IsClear : Geom → Parts → ℕ → Type 0
IsClear g p object =
    slice_get (used_bits (part_at p.fd_maps (object / per_cluster g Fd))) (object % per_cluster g Fd) ≡ Some false

-- a planner may ask to lock the object of a key of the call; that of the entry which it removes; a free descriptor for a new
-- object; and a cluster in which it gives up an item, or in which it looks for items that it needs: all of them descriptors and
-- clusters of the volume
pub data MayLock (g : Geom) (slot : ℕ) (call : CallOf Key) (p : Parts) : ℕ → Type 0 where
  of_key : (key : Key) → Contains (keys_of call) key → key.object < items_of g Fd → MayLock g slot call p key.object
  of_entry : (e : Entry) → RemovesEntry p call e → e.key.object < items_of g Fd → MayLock g slot call p e.key.object
  of_new : (object : ℕ) → WantsDescriptor p call → IsClear g p object → MayLock g slot call p object
  to_give : (kind : Kind) (n : ℕ) → GivesUp p call kind n → n < items_of g kind → MayLock g slot call p (cluster_lock kind (n / per_cluster g kind))
  to_take : (kind : Kind) (count cluster : ℕ) → Needs p call kind count → IsNext g slot p kind count cluster
      → MayLock g slot call p (cluster_lock kind cluster)

-- whatever a planner asks to lock is allowed
abbrev pub IsAllowed : Geom → ℕ → CallOf Key → Parts → Ask → Type 0
IsAllowed g slot call p (Lock object) = MayLock g slot call p object
IsAllowed g slot call p _ = ⊤

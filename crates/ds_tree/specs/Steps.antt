-- What each call on a file tree does: the first refusal whose condition holds, which changes nothing; else the reply and
-- exactly the named change, with any free choice of object numbers, births and blocks.
use Rattle.std.specs.Prelude.{◌≡◌, ℕ, ◌+◌, ◌-◌, ◌*◌, ◌<◌, ◌==◌, ◌&&◌, Bool, true, false, not, nat_eq, nat_le, nat_lt, if◌then◌else◌, List, [], ◌++◌, length, take, drop, map, filter, slice_get, All, Contains, Option, Some, None, is_none, MatchOption, ⊤}
use Rattle.std.specs.Ordering.{nat_cmp, is_lt}
use Rattle.std.specs.Cmp.Lexicographic.{slice_cmp}
use Rattle.std.specs.List.{IsDistinct}
use Rattle.std.specs.FinMap as maps
use Rattle.ds_base.specs.declared.geometry.Geom.{Geom}
use Rattle.ds_base.specs.declared.geometry.Kind.TheVariants.{Fd, Sb, Pb, Fb}
use Rattle.ds_base.specs.declared.names.Key.{Key}
use Rattle.ds_base.specs.Geometry.{items_of}
use Rattle.ds_tree.specs.declared.calls.CallOf.{CallOf}
use Rattle.ds_tree.specs.declared.calls.CallOf.TheVariants as calls
use Rattle.ds_tree.specs.declared.calls.TreeReply.{TreeReply}
use Rattle.ds_tree.specs.declared.calls.TreeReply.TheVariants as replies
use Rattle.ds_tree.specs.Nodes.{Entries, Node, Dir, File, FileTree, node_at, birth_at, node_of_key, kind_of, blocks_of, all_blocks, with_object, with_node}
use Rattle.ds_tree.specs.Counts.{pointer_blocks, free_of}

-- Refusals

abbrev pub refuse : Bool → TreeReply → Option TreeReply → Option TreeReply
refuse condition reply next = if condition then Some reply else next

-- the refusals of a call on a directory, with those that follow
abbrev pub in_dir : Option Node → (Entries → ℕ → Option TreeReply) → Option TreeReply
in_dir None next = Some replies.NoObject
in_dir (Some (File blocks)) next = Some replies.NotDir
in_dir (Some (Dir entries rooms)) next = next entries rooms

-- the refusals of a call on a file, with those that follow
abbrev pub in_file : Option Node → (List ℕ → Option TreeReply) → Option TreeReply
in_file None next = Some replies.NoObject
in_file (Some (Dir entries rooms)) next = Some replies.NotFile
in_file (Some (File blocks)) next = next blocks

abbrev pub is_dir : Option Node → Bool
is_dir (Some (Dir entries rooms)) = true
is_dir _ = false

abbrev pub is_file : Option Node → Bool
is_file (Some (File blocks)) = true
is_file _ = false

-- whether a directory has entries
abbrev pub has_entries : Option Node → Bool
has_entries (Some (Dir entries rooms)) = nat_lt 0 (maps.len entries)
has_entries _ = false

-- the node of the object that an entry names
abbrev pub entry_node : FileTree → Entries → List ℕ → Option Node
entry_node t entries name = elim (maps.get entries name) [ None ↦ None | Some object ↦ node_at t object ]

abbrev pub is_full : Entries → ℕ → Bool
is_full entries rooms = nat_le rooms (maps.len entries)

-- a room for one more entry is wanted
abbrev pub refuses_room : Geom → FileTree → Entries → ℕ → Option TreeReply
refuses_room g t entries rooms =
    refuse (is_full entries rooms && free_of g t Sb == 0) (replies.NoSpace Sb) None

-- a new object is wanted
abbrev pub refuses_new : Geom → FileTree → List ℕ → Entries → ℕ → Option TreeReply
refuses_new g t name entries rooms =
    refuse (maps.contains_key entries name) replies.Exists
    (refuse (nat_le 384 (maps.len entries)) replies.DirFull
    (refuse (free_of g t Fd == 0) (replies.NoSpace Fd)
    (refuses_room g t entries rooms)))

abbrev pub refuses_resize : Geom → FileTree → ℕ → List ℕ → Option TreeReply
refuses_resize g t size blocks =
    refuse (nat_lt 12288 size) replies.TooBig
    (refuse (nat_lt 1024 ((size - length blocks) + (length blocks - size))) replies.TooMuch
    (refuse (nat_lt (free_of g t Fb) (size - length blocks)) (replies.NoSpace Fb)
    (refuse (nat_lt (free_of g t Pb) (pointer_blocks size - pointer_blocks (length blocks))) (replies.NoSpace Pb)
    None)))

abbrev pub refuses_missing : Entries → List ℕ → Option TreeReply → Option TreeReply
refuses_missing entries name next = refuse (not (maps.contains_key entries name)) replies.NotFound next

abbrev pub refuses_remove : FileTree → List ℕ → Entries → ℕ → Option TreeReply
refuses_remove t name entries rooms =
    refuses_missing entries name (refuse (is_dir (entry_node t entries name)) replies.NotFile None)

abbrev pub refuses_rmdir : FileTree → List ℕ → Entries → ℕ → Option TreeReply
refuses_rmdir t name entries rooms =
    refuses_missing entries name
    (refuse (is_file (entry_node t entries name)) replies.NotDir
    (refuse (has_entries (entry_node t entries name)) replies.NotEmpty None))

-- an entry of one directory is wanted under another name, maybe in another directory
abbrev pub refuses_rename : Geom → FileTree → Bool → List ℕ → List ℕ → Entries → Entries → ℕ → Option TreeReply
refuses_rename g t same name fresh entries entries' rooms' =
    refuses_missing entries name
    (refuse (is_dir (entry_node t entries name) && not same) replies.CrossDir
    (refuse (maps.contains_key entries' fresh) replies.Exists
    (if same then None else
    refuse (nat_le 384 (maps.len entries')) replies.DirFull (refuses_room g t entries' rooms'))))

-- the first refusal whose condition holds
abbrev pub refusal : Geom → FileTree → CallOf Key → Option TreeReply
refusal g t (calls.Mkdir dir name) = in_dir (node_of_key t dir) (refuses_new g t name)
refusal g t (calls.Create dir name) = in_dir (node_of_key t dir) (refuses_new g t name)
refusal g t (calls.Lookup dir name) = in_dir (node_of_key t dir) (λ entries rooms. refuses_missing entries name None)
refusal g t (calls.List dir after) = in_dir (node_of_key t dir) (λ entries rooms. None)
refusal g t (calls.Stat key) = refuse (is_none (node_of_key t key)) replies.NoObject None
refusal g t (calls.Map file page) = in_file (node_of_key t file) (λ blocks. None)
refusal g t (calls.Resize file size) = in_file (node_of_key t file) (refuses_resize g t size)
refusal g t (calls.Remove dir name) = in_dir (node_of_key t dir) (refuses_remove t name)
refusal g t (calls.Rmdir dir name) = in_dir (node_of_key t dir) (refuses_rmdir t name)
refusal g t (calls.Rename dir name to fresh) =
    in_dir (node_of_key t dir) (λ entries rooms. in_dir (node_of_key t to) (λ entries' rooms'.
    refuses_rename g t (dir.object == to.object) name fresh entries entries' rooms'))
refusal g t (calls.OpenFile file) = in_file (node_of_key t file) (λ blocks. None)
refusal g t (calls.At file index) =
    in_file (node_of_key t file) (λ blocks. refuse (nat_le (length blocks) index) replies.NoBlock None)

-- Changes

abbrev pub rooms_with_one_more : Entries → ℕ → ℕ
rooms_with_one_more entries rooms = if is_full entries rooms then rooms + 4 else rooms

-- a new object with this node, under this name
pub record Makes (g : Geom) (t : FileTree) (dir : Key) (name : List ℕ) (node : Node) (key : Key) (u : FileTree) : Type 0 where
  pub entries : Entries
  pub rooms : ℕ
  pub in_dir : node_at t dir.object ≡ Some (Dir entries rooms)
  pub in_range : key.object < items_of g Fd
  pub free : node_at t key.object ≡ None
  pub later : birth_at t key.object < key.birth
  pub made : u ≡ with_object
      (with_node t dir.object (Dir (maps.insert entries name key.object) (rooms_with_one_more entries rooms)))
      key.object (record { birth = key.birth; node = Some node })

-- the entry of this name is the object of this key, which has this node
pub record Finds (t : FileTree) (dir : Key) (name : List ℕ) (key : Key) (node : Node) : Type 0 where
  pub entries : Entries
  pub rooms : ℕ
  pub in_dir : node_at t dir.object ≡ Some (Dir entries rooms)
  pub entry : maps.get entries name ≡ Some key.object
  pub life : birth_at t key.object ≡ key.birth
  pub is_node : node_at t key.object ≡ Some node

abbrev pub is_above : Option (List ℕ) → List ℕ → Bool
is_above None name = true
is_above (Some after) name = is_lt (slice_cmp nat_cmp after name)

-- the names above one, the least first, each with its object
abbrev pub entries_above : Entries → Option (List ℕ) → List (List ℕ × ℕ)
entries_above entries after = filter (λ e. is_above after e.0) (maps.entries entries)

-- the number of entries, and the first at most 32 names above one, in byte order, each with its key
pub record Lists (t : FileTree) (dir : Key) (after : Option (List ℕ)) (total : ℕ) (names : List (List ℕ × Key)) : Type 0 where
  pub entries : Entries
  pub rooms : ℕ
  pub in_dir : node_at t dir.object ≡ Some (Dir entries rooms)
  pub all : total ≡ maps.len entries
  pub page : names ≡ map (λ e. (e.0, record { object = e.1; birth = birth_at t e.1 })) (take 32 (entries_above entries after))

abbrev pub size_of : Node → ℕ
size_of (Dir entries rooms) = rooms
size_of (File blocks) = length blocks

-- the blocks of a file
abbrev pub HasBlocks : FileTree → Key → List ℕ → Type 0
HasBlocks t file blocks = node_at t file.object ≡ Some (File blocks)

-- the file's last blocks are given up, or free blocks are added at its end
pub record Resizes (g : Geom) (t : FileTree) (file : Key) (size : ℕ) (u : FileTree) : Type 0 where
  pub blocks : List ℕ
  pub added : List ℕ
  pub in_file : HasBlocks t file blocks
  pub grows : length added ≡ size - length blocks
  pub in_range : All (λ b. b < items_of g Fb) added
  pub free : All (λ b. ¬ Contains (all_blocks t) b) added
  pub distinct : IsDistinct nat_eq added
  pub resized : u ≡ with_node t file.object (File (take size blocks ++ added))

-- the entry of this name goes, and its object with it; the room stays
pub record Removes (t : FileTree) (dir : Key) (name : List ℕ) (key : Key) (u : FileTree) : Type 0 where
  pub entries : Entries
  pub rooms : ℕ
  pub in_dir : node_at t dir.object ≡ Some (Dir entries rooms)
  pub entry : maps.get entries name ≡ Some key.object
  pub life : birth_at t key.object ≡ key.birth
  pub removed : u ≡ with_object (with_node t dir.object (Dir (maps.remove entries name) rooms))
      key.object (record { birth = key.birth; node = None })

-- the entry of this name stands under another one, in the same directory, or in another one with a room for it
abbrev pub renamed : FileTree → Key → Key → List ℕ → List ℕ → ℕ → Entries → ℕ → Entries → ℕ → FileTree
renamed t dir to name fresh object entries rooms entries' rooms' =
    if dir.object == to.object
    then with_node t dir.object (Dir (maps.insert (maps.remove entries name) fresh object) rooms)
    else with_node (with_node t dir.object (Dir (maps.remove entries name) rooms))
    to.object (Dir (maps.insert entries' fresh object) (rooms_with_one_more entries' rooms'))

pub record Renames (t : FileTree) (dir : Key) (name : List ℕ) (to : Key) (fresh : List ℕ) (key : Key) (u : FileTree) : Type 0 where
  pub entries : Entries
  pub rooms : ℕ
  pub entries' : Entries
  pub rooms' : ℕ
  pub in_dir : node_at t dir.object ≡ Some (Dir entries rooms)
  pub in_to : node_at t to.object ≡ Some (Dir entries' rooms')
  pub entry : maps.get entries name ≡ Some key.object
  pub life : birth_at t key.object ≡ key.birth
  pub moved : u ≡ renamed t dir to name fresh key.object entries rooms entries' rooms'

-- the reply and the change of a call that isn't refused
abbrev pub Succeeds : Geom → FileTree → CallOf Key → TreeReply → FileTree → Type 0
Succeeds g t (calls.Mkdir dir name) (replies.Made key) u = Makes g t dir name (Dir maps.empty 0) key u
Succeeds g t (calls.Create dir name) (replies.Made key) u = Makes g t dir name (File []) key u
Succeeds g t (calls.Lookup dir name) (replies.Found key kind) u =
    (node : Node) × Finds t dir name key node × (kind ≡ kind_of node) × (u ≡ t)
Succeeds g t (calls.List dir after) (replies.Page total names) u = Lists t dir after total names.items × (u ≡ t)
Succeeds g t (calls.Stat key) (replies.Info kind size) u =
    (node : Node) × (node_at t key.object ≡ Some node) × (kind ≡ kind_of node) × (size ≡ size_of node) × (u ≡ t)
Succeeds g t (calls.Map file page) (replies.Blocks list) u =
    (blocks : List ℕ) × HasBlocks t file blocks × (list.items ≡ take 128 (drop (128 * page) blocks)) × (u ≡ t)
Succeeds g t (calls.Resize file size) (replies.Sized blocks) u = (blocks ≡ size) × Resizes g t file size u
Succeeds g t (calls.Remove dir name) (replies.Gone key) u = Removes t dir name key u
Succeeds g t (calls.Rmdir dir name) (replies.Gone key) u = Removes t dir name key u
Succeeds g t (calls.Rename dir name to fresh) (replies.Moved key) u = Renames t dir name to fresh key u
Succeeds g t (calls.OpenFile file) (replies.Opened size) u =
    (blocks : List ℕ) × HasBlocks t file blocks × (size ≡ length blocks) × (u ≡ t)
Succeeds g t (calls.At file index) (replies.AtBlock block) u =
    (blocks : List ℕ) × HasBlocks t file blocks × (slice_get blocks index ≡ Some block) × (u ≡ t)
Succeeds g t _ _ u = ⊥

-- the call answers so at a tree, and leaves this one
abbrev pub Does : Geom → FileTree → CallOf Key → TreeReply → FileTree → Type 0
Does g t call reply u = MatchOption (refusal g t call) (Succeeds g t call reply u) (λ refused. (reply ≡ refused) × (u ≡ t))

-- whether a reply refuses its call
abbrev pub is_refusal : TreeReply → Bool
is_refusal (replies.Made key) = false
is_refusal (replies.Found key kind) = false
is_refusal (replies.Page total names) = false
is_refusal (replies.Info kind size) = false
is_refusal (replies.Blocks list) = false
is_refusal (replies.Sized blocks) = false
is_refusal (replies.Gone key) = false
is_refusal (replies.Moved key) = false
is_refusal (replies.Opened blocks) = false
is_refusal (replies.AtBlock block) = false
is_refusal _ = true

-- a new object is born once more than its number was before
abbrev pub IsNextLife : FileTree → TreeReply → Type 0
IsNextLife t (replies.Made key) = key.birth ≡ birth_at t key.object + 1
IsNextLife t _ = ⊤

-- whether a call's success changes the tree: a Resize to an equal size does not
abbrev pub has_change : FileTree → CallOf Key → Bool
has_change t (calls.Mkdir dir name) = true
has_change t (calls.Create dir name) = true
has_change t (calls.Resize file size) = not (length (blocks_of (node_at t file.object)) == size)
has_change t (calls.Remove dir name) = true
has_change t (calls.Rmdir dir name) = true
has_change t (calls.Rename dir name to fresh) = true
has_change t _ = false

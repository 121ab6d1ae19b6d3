-- The objects that the parts of an image spell: which items a descriptor's body lists, and the node that it stands for.
-- What depends on the kind of a body takes the kind beside the body.
use Rattle.std.specs.Prelude.{ℕ, ◌*◌, Bool, false, nat_le, is_some, if◌then◌else◌, List, [], ◌∷◌, bytes_eq, map, take, drop, Option, Some, None}
use Rattle.std.specs.List.{flat_map, filter_map}
use Rattle.std.specs.FinMap as finite
use Rattle.ds_base.specs.declared.names.NodeKind.{NodeKind}
use Rattle.ds_base.specs.declared.names.NodeKind.TheVariants as kinds
use Rattle.ds_dir.specs.declared.sub_block.Entry.{Entry}
use Rattle.ds_dir.specs.declared.sub_block.SubBlock.{SubBlock}
use Rattle.ds_fd.specs.declared.body.Body.{Body}
use Rattle.ds_ptr.specs.declared.ptr_block.PtrBlock.{PtrBlock}
use Rattle.ds_tree.specs.Counts.{pointer_blocks}
use Rattle.ds_tree.specs.Nodes.{Entries, Node, Dir, File, Object, FileTree, unborn}
use Rattle.ds_image_parts.specs.Parts.{Parts, part_at}

-- the sub-blocks that a directory lists: its first addresses, as many as its count
abbrev pub subs_by : Body → Option NodeKind → List ℕ
subs_by b (Some kinds.Dir) = take b.count b.addresses
subs_by b _ = []

-- the pointer blocks that a file of more than 96 blocks lists: its first addresses, one for each 128 blocks
abbrev pub ptrs_by : Body → Option NodeKind → List ℕ
ptrs_by b (Some kinds.File) = take (pointer_blocks b.count) b.addresses
ptrs_by b _ = []

-- the addresses in a pointer block; one that is not spelled has none
abbrev pub addresses_in : Option PtrBlock → List ℕ
addresses_in None = []
addresses_in (Some block) = block.addresses

-- the addresses in a body's pointer blocks, one block after another
abbrev pub pointed_by : Parts → Body → Option NodeKind → List ℕ
pointed_by p b kind = flat_map (λ n. addresses_in (part_at p.ptrs n)) (ptrs_by b kind)

-- the blocks of a file: up to 96 its own first addresses, and else the first in its pointer blocks
abbrev pub blocks_by : Parts → Body → Option NodeKind → List ℕ
blocks_by p b (Some kinds.File) = take b.count (if nat_le b.count 96 then b.addresses else pointed_by p b (Some kinds.File))
blocks_by p b _ = []

-- the addresses in a file's pointer blocks past its last block
abbrev pub tail_by : Parts → Body → Option NodeKind → List ℕ
tail_by p b kind = drop b.count (pointed_by p b kind)

-- the rooms of a sub-block; one that is not spelled has none
abbrev pub rooms_in : Option SubBlock → List (Option Entry)
rooms_in None = []
rooms_in (Some block) = block.rooms

-- the rooms of sub-blocks, one sub-block after another
abbrev pub rooms_of : Parts → List ℕ → List (Option Entry)
rooms_of p subs = flat_map (λ n. rooms_in (part_at p.subs n)) subs

-- the entries in the used rooms of sub-blocks
abbrev pub used_rooms : Parts → List ℕ → List Entry
used_rooms p subs = filter_map (λ room. room) (rooms_of p subs)

-- those entries as object numbers by name
abbrev pub entries_of : Parts → List ℕ → Entries
entries_of p subs = finite.from_entries (map (λ (e : Entry). (e.name, e.key.object)) (used_rooms p subs))

-- the node of a body: four rooms for each sub-block of a directory, with the entries in its used ones; a file's blocks
abbrev pub node_by : Parts → Body → Option NodeKind → Option Node
node_by p b None = None
node_by p b (Some kinds.Dir) = Some (Dir (entries_of p (subs_by b (Some kinds.Dir))) (4 * b.count))
node_by p b (Some kinds.File) = Some (File (blocks_by p b (Some kinds.File)))

-- the object of a descriptor: its node, or none, in the life that its birth says
abbrev pub object_of : Parts → Option Body → Object
object_of p None = unborn
object_of p (Some b) = record { birth = b.birth; node = node_by p b b.kind }

-- the tree of all objects
unfoldable pub tree_of : Parts → FileTree
tree_of p = record { objects = map (object_of p) p.bodies }

-- what a descriptor lists; one that spells no body lists nothing
abbrev pub subs_of : Option Body → List ℕ
subs_of None = []
subs_of (Some b) = subs_by b b.kind

abbrev pub ptrs_of : Option Body → List ℕ
ptrs_of None = []
ptrs_of (Some b) = ptrs_by b b.kind

abbrev pub blocks_of : Parts → Option Body → List ℕ
blocks_of p None = []
blocks_of p (Some b) = blocks_by p b b.kind

abbrev pub tail_of : Parts → Option Body → List ℕ
tail_of p None = []
tail_of p (Some b) = tail_by p b b.kind

-- whether a descriptor is in use
abbrev pub is_used : Option Body → Bool
is_used None = false
is_used (Some b) = is_some b.kind

-- the first entry of a name
abbrev pub entry_named : List Entry → List ℕ → Option Entry
entry_named [] name = None
entry_named (e ∷ es) name = if bytes_eq name e.name then Some e else entry_named es name

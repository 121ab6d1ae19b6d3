-- A file tree: objects by number, of which some are directories and some are files.
use Rattle.std.specs.Prelude.{ℕ, ◌-◌, ◌==◌, if◌then◌else◌, List, [], ◌∷◌, replicate, slice_index_or, slice_set, Option, Some, None}
use Rattle.std.specs.List.{flat_map}
use Rattle.std.specs.Ordering.{nat_cmp}
use Rattle.std.specs.Cmp.Lexicographic.{slice_cmp}
use Rattle.std.specs.FinMap as map
use Rattle.ds_base.specs.declared.geometry.Geom.{Geom}
use Rattle.ds_base.specs.declared.geometry.Kind.TheVariants.{Fd}
use Rattle.ds_base.specs.declared.names.Key.{Key}
use Rattle.ds_base.specs.declared.names.NodeKind.{NodeKind}
use Rattle.ds_base.specs.declared.names.NodeKind.TheVariants as kinds
use Rattle.ds_base.specs.Geometry.{items_of}

-- the entries of a directory: object numbers by name, names in byte order
abbrev pub Entries : Type 0
Entries = map.FinMap (slice_cmp nat_cmp) ℕ

-- a directory has entries and a number of rooms; a file has a list of block numbers
pub data Node : Type 0 where
  Dir : Entries → ℕ → Node
  File : List ℕ → Node

-- what an object number stands for: the birth of its last life, and its node while it is in use
pub record Object : Type 0 where
  pub birth : ℕ
  pub node : Option Node

-- one object for each descriptor of the volume
pub record FileTree : Type 0 where
  pub objects : List Object

-- a number that no object ever had
abbrev pub unborn : Object
unborn = record { birth = 0; node = None }

abbrev pub object_at : FileTree → ℕ → Object
object_at t n = slice_index_or t.objects n unborn

abbrev pub node_at : FileTree → ℕ → Option Node
node_at t n = (object_at t n).node

-- the birth of a number's last life
abbrev pub birth_at : FileTree → ℕ → ℕ
birth_at t n = (object_at t n).birth

-- the node that a key names: that of its object, if this is still that life
abbrev pub node_of_key : FileTree → Key → Option Node
node_of_key t key = if birth_at t key.object == key.birth then node_at t key.object else None

abbrev pub kind_of : Node → NodeKind
kind_of (Dir entries rooms) = kinds.Dir
kind_of (File blocks) = kinds.File

abbrev pub blocks_of : Option Node → List ℕ
blocks_of (Some (File blocks)) = blocks
blocks_of _ = []

-- the blocks of all files
abbrev pub all_blocks : FileTree → List ℕ
all_blocks t = flat_map (λ o. blocks_of o.node) t.objects

abbrev pub with_object : FileTree → ℕ → Object → FileTree
with_object t n object = record { objects = slice_set t.objects n object }

-- the tree with another node for a number, in the same life
abbrev pub with_node : FileTree → ℕ → Node → FileTree
with_node t n node = with_object t n (record { birth = birth_at t n; node = Some node })

abbrev pub root_key : Key
root_key = record { object = 0; birth = 1 }

-- the tree that has the root alone, an empty directory without rooms
abbrev pub fresh_tree : Geom → FileTree
fresh_tree g = record { objects = record { birth = 1; node = Some (Dir map.empty 0) } ∷ replicate (items_of g Fd - 1) unborn }

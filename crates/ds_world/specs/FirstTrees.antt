-- How the tree of the first world is built from the rooms of its device.
use Rattle.std.specs.Prelude.{◌≡◌, ℕ, ◌<◌, Option, Some, None}
use Rattle.std.specs.FinMap as maps
use Rattle.ds_tree.specs.Nodes.{Entries, Dir, FileTree, with_object}
use Rattle.ds_dir.specs.declared.sub_block.Entry.{Entry}
use Rattle.ds_world.specs.FirstRules.{with_file}

-- the tree with the file of a room
abbrev pub with_room : FileTree → Option Entry → FileTree
with_room t None = t
with_room t (Some e) = with_file t e

-- the names with that of a room
abbrev pub with_name : Entries → Option Entry → Entries
with_name names None = names
with_name names (Some e) = maps.insert names e.name e.key.object

-- the root of a tree is a directory with these names and rooms, and the rest is that of another tree
abbrev pub IsRooted : FileTree → Entries → ℕ → FileTree → Type 0
IsRooted rest names rooms t = t ≡ with_object rest 0 (record { birth = 1; node = Some (Dir names rooms) })

-- a room's object, if it has one, is one of so many
abbrev pub FitsIn : ℕ → Option Entry → Type 0
FitsIn count None = Unit {0}
FitsIn count (Some e) = e.key.object < count

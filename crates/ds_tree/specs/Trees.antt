-- What contracts see of a `Tree`.
use Rattle.std.specs.Prelude.{ℕ, [], ◌^◌, nat_le, Bool, Option, Some}
use Rattle.std.specs.List.{list_any}
use Rattle.std.specs.FinMap as maps
use Rattle.ds_base.specs.declared.geometry.Geom.{Geom}
use Rattle.ds_base.specs.declared.names.NodeKind.{NodeKind}
use Rattle.ds_base.specs.declared.names.NodeKind.TheVariants as nodes
use Rattle.ds_tree.specs.Nodes.{Entries, Node, Dir, File, FileTree}

-- a file tree, and the geometry that it was made for
pub record TreeValue : Type 0 where
  pub geom : Geom
  pub tree : FileTree

-- the entries of a directory
abbrev pub entries_of : Option Node → Entries
entries_of (Some (Dir entries rooms)) = entries
entries_of _ = maps.empty

-- the rooms of a directory
abbrev pub rooms_of : Option Node → ℕ
rooms_of (Some (Dir entries rooms)) = rooms
rooms_of _ = 0

-- whether some number's last birth is 2^62 or more
abbrev pub is_worn : FileTree → Bool
is_worn t = list_any (λ o. nat_le (2 ^ 62) o.birth) t.objects

-- a new directory or file
abbrev pub empty_node : NodeKind → Node
empty_node nodes.Dir = Dir maps.empty 0
empty_node nodes.File = File []

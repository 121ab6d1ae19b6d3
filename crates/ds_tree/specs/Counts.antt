-- How much of a volume a file tree uses, and how much is free.
use Rattle.std.specs.Prelude.{ℕ, ◌+◌, ◌-◌, ◌/◌, nat_le, if◌then◌else◌, length, Option, Some, None}
use Rattle.std.specs.List.{sum_by}
use Rattle.ds_base.specs.declared.geometry.Geom.{Geom}
use Rattle.ds_base.specs.declared.geometry.Kind.{Kind}
use Rattle.ds_base.specs.declared.geometry.Kind.TheVariants.{Fd, Sb, Pb, Fb}
use Rattle.ds_base.specs.Geometry.{items_of}
use Rattle.ds_tree.specs.Nodes.{Node, Dir, File, FileTree}

-- the pointer blocks of a file of so many blocks
abbrev pub pointer_blocks : ℕ → ℕ
pointer_blocks n = if nat_le n 96 then 0 else (n + 127) / 128

-- the items of a kind that a node uses
abbrev pub node_uses : Kind → Option Node → ℕ
node_uses kind None = 0
node_uses Fd (Some node) = 1
node_uses Sb (Some (Dir entries rooms)) = rooms / 4
node_uses Sb (Some (File blocks)) = 0
node_uses Pb (Some (Dir entries rooms)) = 0
node_uses Pb (Some (File blocks)) = pointer_blocks (length blocks)
node_uses Fb (Some (Dir entries rooms)) = 0
node_uses Fb (Some (File blocks)) = length blocks

abbrev pub used_of : FileTree → Kind → ℕ
used_of t kind = sum_by (λ o. node_uses kind o.node) t.objects

-- the items of a kind that no node uses
abbrev pub free_of : Geom → FileTree → Kind → ℕ
free_of g t kind = items_of g kind - used_of t kind

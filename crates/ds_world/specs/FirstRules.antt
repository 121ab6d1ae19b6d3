-- The rules of the first world: its device is one sector, the sub-block of the root directory.
use Rattle.std.specs.Prelude.{◌≡◌, ℕ, ◌+◌, ◌&&◌, Bool, false, List, [], ◌∷◌, map, fold, slice_get, replicate, Some}
use Rattle.std.specs.FinMap as maps
use Rattle.ds_base.specs.declared.geometry.Geom.{Geom}
use Rattle.ds_base.specs.declared.sectors.Sector.{Sector}
use Rattle.ds_base.specs.Device.{takes_effect}
use Rattle.ds_base.specs.declared.names.NodeKind.TheVariants as node_kinds
use Rattle.ds_tree.specs.Nodes.{Entries, Dir, File, Object, FileTree, with_object, with_node, fresh_tree}
use Rattle.ds_tree.specs.FirstForm.{first_geom}
use Rattle.ds_dir.specs.declared.sub_block.Entry.{Entry}
use Rattle.ds_dir.specs.declared.sub_block.SubBlock.{SubBlock}
use Rattle.ds_host.specs.Rooms.{entries_in}
use Rattle.ds_host.specs.FirstConduct.{SpellsRooms}
use Rattle.ds_log.specs.declared.logs.Step.{Step}
use Rattle.ds_log.specs.declared.logs.Step.TheVariants.{Local, Sent}
use Rattle.ds_log.specs.Rules.{Rules}

-- the sector whose bytes are all zero
abbrev pub zero_sector : Sector
zero_sector = record { bytes = replicate 512 0 }

-- a commit is a landed Swap that takes effect
abbrev pub swaps : List Sector → Step → Bool
swaps sectors Local = false
swaps sectors (Sent under command response landed took) = landed && takes_effect sectors command

-- the names of these entries, each with its object
abbrev pub entries_map : List Entry → Entries
entries_map es = maps.from_entries (map (λ e. (e.name, e.key.object)) es)

-- the rooms of a directory of one sub-block, which it has from its first entry on
abbrev pub rooms_for : List Entry → ℕ
rooms_for [] = 0
rooms_for (e ∷ es) = 4

-- the empty file of an entry
abbrev pub file_of : Entry → Object
file_of e = record { birth = e.key.birth; node = Some (File []) }

abbrev pub with_file : FileTree → Entry → FileTree
with_file t e = with_object t e.key.object (file_of e)

-- the tree whose root has these entries, each an empty file
abbrev pub tree_of : Geom → List Entry → FileTree
tree_of g es = with_node (fold with_file (fresh_tree g) es) 0 (Dir (entries_map es) (rooms_for es))

-- entries numbered from here on, each a file of birth 1
abbrev pub NumberedFrom : ℕ → List Entry → Type 0
NumberedFrom i [] = Unit {0}
NumberedFrom i (e ∷ es) = (e.key ≡ record { object = i; birth = 1 }) × (e.kind ≡ node_kinds.File) × NumberedFrom (i + 1) es

-- the first sector spells a sub-block, and the tree is that of its entries
pub record IsTreeOf (g : Geom) (sectors : List Sector) (t : FileTree) : Type 0 where
  pub sector : Sector
  pub block : SubBlock
  pub there : slice_get sectors 0 ≡ Some sector
  pub spelled : SpellsRooms sector block
  pub tree : t ≡ tree_of g (entries_in block.rooms)

abbrev pub first_rules : Rules
first_rules = record { start = zero_sector ∷ []; is_commit = swaps; StandsFor = IsTreeOf first_geom }

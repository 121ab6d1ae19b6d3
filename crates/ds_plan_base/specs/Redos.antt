-- Sectors that calls write.
use Rattle.std.specs.Prelude.{ℕ, ◌+◌, nat_lt, if◌then◌else◌, List, [], ◌∷◌, slice_set, Some, None}
use Rattle.ds_base.specs.declared.geometry.Geom.{Geom}
use Rattle.ds_base.specs.declared.geometry.Kind.{Kind}
use Rattle.ds_bitmap.specs.Bits.{bits_bytes}
use Rattle.ds_dir.specs.SubBlock.{sub_bytes}
use Rattle.ds_dir.specs.declared.sub_block.Entry.{Entry}
use Rattle.ds_dir.specs.declared.sub_block.SubBlock.{SubBlock}
use Rattle.ds_fd.specs.Body.{body_bytes}
use Rattle.ds_fd.specs.declared.body.Body.{Body}
use Rattle.ds_image_parts.specs.Pending.{Pair}
use Rattle.ds_jrnl.specs.declared.redo.Redo.{Redo}
use Rattle.ds_layout.specs.Places.{place_sector}
use Rattle.ds_layout.specs.declared.places.Place.TheVariants as places
use Rattle.ds_plan_base.specs.Items.{map_taken}
use Rattle.ds_plan_base.specs.declared.entries.Found.{Found}
use Rattle.ds_plan_base.specs.declared.items.FreeItem.{FreeItem}
use Rattle.ds_plan_base.specs.declared.rooms.FreeRoom.{FreeRoom}

-- a directory's body with one sub-block more
abbrev pub body_grown : Body → ℕ → Body
body_grown dir n = record dir { count = dir.count + 1; addresses = slice_set dir.addresses dir.count n }

-- a sub-block with an entry in a room, and one with an entry alone
abbrev pub block_filled : FreeRoom → Entry → SubBlock
block_filled free e = record { rooms = slice_set free.block.rooms free.room (Some e) }

abbrev pub block_alone : Entry → SubBlock
block_alone e = record { rooms = Some e ∷ None ∷ None ∷ None ∷ [] }

-- the sub-block of an entry without the entry
abbrev pub block_emptied : Found → SubBlock
block_emptied found = record { rooms = slice_set found.block.rooms found.room None }

-- sectors that are written, each with its number
abbrev pub map_pair : Geom → Kind → FreeItem → Pair
map_pair g kind free = (place_sector g (places.Bitmap kind free.cluster), record { bytes = bits_bytes (map_taken free) })

abbrev pub body_pair : Geom → Body → Pair
body_pair g b = (place_sector g (places.Body b.object), record { bytes = body_bytes b })

abbrev pub sub_pair : Geom → ℕ → SubBlock → Pair
sub_pair g n block = (place_sector g (places.SubBlock n), record { bytes = sub_bytes block })

-- two bodies, that of the lower object first
abbrev pub in_order : Geom → Body → Body → List Pair → List Pair
in_order g a b pairs =
    if nat_lt a.object b.object then body_pair g a ∷ body_pair g b ∷ pairs else body_pair g b ∷ body_pair g a ∷ pairs

abbrev pub redo_of : List Pair → Redo
redo_of pairs = record { pairs = record { items = pairs } }

-- What is written to rename an entry.
use Rattle.std.specs.Prelude.{ℕ, nat_lt, if◌then◌else◌, List, [], ◌∷◌, slice_set, Some}
use Rattle.ds_base.specs.declared.geometry.Geom.{Geom}
use Rattle.ds_base.specs.declared.geometry.Kind.TheVariants.{Sb}
use Rattle.ds_dir.specs.declared.sub_block.Entry.{Entry}
use Rattle.ds_dir.specs.declared.sub_block.SubBlock.{SubBlock}
use Rattle.ds_fd.specs.declared.body.Body.{Body}
use Rattle.ds_image_parts.specs.Pending.{Pair}
use Rattle.ds_plan_base.specs.Items.{number_of}
use Rattle.ds_plan_base.specs.Redos.{block_alone, block_emptied, block_filled, body_grown, body_pair, map_pair, sub_pair}
use Rattle.ds_plan_base.specs.declared.entries.Found.{Found}
use Rattle.ds_plan_base.specs.declared.items.FreeItem.{FreeItem}
use Rattle.ds_plan_base.specs.declared.rooms.FreeRoom.{FreeRoom}

-- the entry under another name
abbrev pub entry_moved : Found → List ℕ → Entry
entry_moved from fresh = record { name = fresh; key = from.key; kind = from.kind }

-- its sub-block with the entry under that name
abbrev pub block_renamed : Found → List ℕ → SubBlock
block_renamed from fresh = record { rooms = slice_set from.block.rooms from.room (Some (entry_moved from fresh)) }

-- two sub-blocks, that of the lower number first
abbrev pub subs_in_order : Geom → ℕ → SubBlock → ℕ → SubBlock → List Pair
subs_in_order g n a m b = if nat_lt n m then sub_pair g n a ∷ sub_pair g m b ∷ [] else sub_pair g m b ∷ sub_pair g n a ∷ []

-- the entry keeps its room
abbrev pub pairs_kept : Geom → Found → List ℕ → List Pair
pairs_kept g from fresh = sub_pair g from.sub (block_renamed from fresh) ∷ []

-- the entry gets a free room of another directory
abbrev pub pairs_moved : Geom → Found → FreeRoom → List ℕ → List Pair
pairs_moved g from free fresh = subs_in_order g from.sub (block_emptied from) free.sub (block_filled free (entry_moved from fresh))

-- the entry gets the first room of a sub-block that another directory gets
abbrev pub pairs_grown : Geom → Found → Body → FreeItem → List ℕ → List Pair
pairs_grown g from to sub fresh =
    map_pair g Sb sub ∷ body_pair g (body_grown to (number_of g Sb sub))
    ∷ subs_in_order g from.sub (block_emptied from) (number_of g Sb sub) (block_alone (entry_moved from fresh))

-- The blocks of a file from one page on, as a planner sees them.
use Rattle.std.specs.Prelude.{ℕ, ◌<◌, length, slice_index, ◌-◌, ◌*◌, nat_le, if◌then◌else◌, List, [], ◌∷◌, ◌++◌, take, drop, Result, Ok}
use Rattle.ds_base.specs.Geometry.{items_of}
use Rattle.ds_base.specs.declared.geometry.Geom.{Geom}
use Rattle.ds_base.specs.declared.geometry.Kind.{Kind}
use Rattle.ds_fd.specs.declared.body.Body.{Body}
use Rattle.ds_image_parts.specs.Parts.{Parts}
use Rattle.ds_image.specs.SeenValues.{SeenValue}
use Rattle.ds_plan_base.specs.Pointers.{pointer_seen}
use Rattle.ds_plan_base.specs.Steps.{after}
use Rattle.ds_plan_base.specs.declared.stops.Stop.{Stop}
use Rattle.ds_plan_resize.specs.declared.blocks.Blocks.{Blocks}
use Rattle.ds_tree.specs.Counts.{pointer_blocks}

-- the pointer blocks of a file, and those from a page on
abbrev pub pointers_in : Body → List ℕ
pointers_in b = take (pointer_blocks b.count) b.addresses

abbrev pub pointers_from : Body → ℕ → List ℕ
pointers_from b first = drop first (pointers_in b)

-- each of these is an item of the volume
abbrev pub AreItems : Geom → Kind → List ℕ → Type 0
AreItems g kind items = (i : ℕ) → i < length items → slice_index items i < items_of g kind

-- blocks as a list of the code
abbrev pub blocks_of : List ℕ → Blocks
blocks_of list = record { list = record { items = list } }

-- behind these blocks the addresses in more pointer blocks, each of which is read where it wasn't
abbrev pub addresses_seen : Geom → SeenValue → Parts → Body → List ℕ → List ℕ → Result Blocks Stop
addresses_seen g seen p b found [] = Ok (blocks_of found)
addresses_seen g seen p b found (n ∷ pointers) =
    after (pointer_seen g seen p b n) (λ block. addresses_seen g seen p b (found ++ block.addresses) pointers)

-- the first so many
abbrev pub cut : ℕ → Blocks → Blocks
cut count blocks = blocks_of (take count blocks.list.items)

-- the blocks of a file from a page on: up to 96 its own first addresses, and else those in its pointer blocks
abbrev pub blocks_seen : Geom → SeenValue → Parts → Body → ℕ → Result Blocks Stop
blocks_seen g seen p b first =
    if nat_le b.count 96 then Ok (blocks_of (take b.count b.addresses))
    else after (addresses_seen g seen p b [] (pointers_from b first)) (λ found. Ok (cut (b.count - 128 * first) found))

-- The blocks of a file, as the planner of a call that only reads an object comes to know them.
use Rattle.std.specs.Prelude.{ℕ, ◌-◌, ◌*◌, ◌/◌, ◌%◌, nat_le, nat_lt, if◌then◌else◌, List, [], take, slice_index, Result, Ok, Err}
use Rattle.ds_base.specs.Geometry.{items_of}
use Rattle.ds_base.specs.declared.geometry.Geom.{Geom}
use Rattle.ds_base.specs.declared.geometry.Kind.TheVariants.{Fb}
use Rattle.ds_fd.specs.declared.body.Body.{Body}
use Rattle.ds_image_parts.specs.Parts.{Parts}
use Rattle.ds_image.specs.SeenValues.{SeenValue}
use Rattle.ds_layout.specs.Places.{place_sector}
use Rattle.ds_layout.specs.declared.places.Place.TheVariants as places
use Rattle.ds_plan_base.specs.Pointers.{pointer_seen}
use Rattle.ds_plan_base.specs.Steps.{after}
use Rattle.ds_plan_base.specs.declared.stops.Stop.{Stop}
use Rattle.ds_plan_base.specs.declared.stops.Stop.TheVariants.{Odd}
use Rattle.ds_tree.specs.declared.calls.TreeReply.{TreeReply}
use Rattle.ds_tree.specs.declared.calls.TreeReply.TheVariants.{Blocks, AtBlock, NoBlock}

-- the pointer block of a page
abbrev pub pointer_of : Body → ℕ → ℕ
pointer_of b page = slice_index b.addresses page

abbrev pub blocks_reply : List ℕ → TreeReply
blocks_reply blocks = Blocks (record { items = blocks })

-- a page of 128 blocks of a file: none past the last one; of up to 96 blocks they are the file's own first addresses, and of more
-- the first in the page's pointer block
abbrev pub page_known : Geom → SeenValue → Parts → Body → ℕ → Result TreeReply Stop
page_known g seen p b page =
    if nat_le b.count (128 * page) then Ok (blocks_reply [])
    else if nat_le b.count 96 then Ok (blocks_reply (take b.count b.addresses))
    else after (pointer_seen g seen p b (pointer_of b page)) (λ block. Ok (blocks_reply (take (b.count - 128 * page) block.addresses)))

-- a block that stands in a sector; one that the volume doesn't have is odd
abbrev pub block_in : Geom → ℕ → ℕ → Result TreeReply Stop
block_in g at block = if nat_lt block (items_of g Fb) then Ok (AtBlock block) else Err (Odd at)

-- the block of a file with an index
abbrev pub block_known : Geom → SeenValue → Parts → Body → ℕ → Result TreeReply Stop
block_known g seen p b index =
    if nat_le b.count index then Ok NoBlock
    else if nat_le b.count 96 then block_in g (place_sector g (places.Body b.object)) (slice_index b.addresses index)
    else after (pointer_seen g seen p b (pointer_of b (index / 128)))
    (λ block. block_in g (place_sector g (places.PtrBlock (pointer_of b (index / 128)))) (slice_index block.addresses (index % 128)))

-- What is written to give a file another size.
use Rattle.std.specs.Prelude.{ℕ, ◌-◌, nat_le, if◌then◌else◌, List, [], ◌∷◌, ◌++◌, length, map, take, drop}
use Rattle.ds_base.specs.declared.geometry.Geom.{Geom}
use Rattle.ds_bytes.specs.Fields.{zeros}
use Rattle.ds_fd.specs.declared.body.Body.{Body}
use Rattle.ds_image_parts.specs.Pending.{Pair}
use Rattle.ds_jrnl.specs.declared.redo.Redo.{Redo}
use Rattle.ds_layout.specs.Places.{place_sector}
use Rattle.ds_layout.specs.declared.places.Place.TheVariants as places
use Rattle.ds_plan_base.specs.Redos.{body_pair}
use Rattle.ds_ptr.specs.PtrBlock.{ptr_bytes}
use Rattle.ds_ptr.specs.declared.ptr_block.PtrBlock.{PtrBlock}
use Rattle.ds_plan_resize.specs.Blocks.{pointers_from}
use Rattle.ds_plan_resize.specs.Ordered.{put_all_in}
use Rattle.ds_plan_resize.specs.declared.resized.Resized.{Resized}

-- numbers with zeros behind them
abbrev pub padded : ℕ → List ℕ → List ℕ
padded n numbers = numbers ++ zeros (n - length numbers)

-- the body of the same file with this size and these addresses
abbrev pub body_sized : Body → ℕ → List ℕ → Body
body_sized b size used = record b { count = size; addresses = padded 96 used }

-- the addresses in use: up to 96 blocks these, and else pointer blocks
abbrev pub used_by : ℕ → List ℕ → List ℕ → List ℕ
used_by size blocks pointers = if nat_le size 96 then blocks else pointers

-- blocks in their pointer blocks: 128 in each, and zeros behind the last
abbrev pub pages_of : List ℕ → List ℕ → List (ℕ × PtrBlock)
pages_of blocks [] = []
pages_of blocks (n ∷ pointers) = (n, record { addresses = padded 128 (take 128 blocks) }) ∷ pages_of (drop 128 blocks) pointers

-- the sector of a pointer block, with its number
abbrev pub ptr_pair : Geom → ℕ × PtrBlock → Pair
ptr_pair g page = (place_sector g (places.PtrBlock page.0), record { bytes = ptr_bytes page.1 })

-- behind the bitmaps the body, and the pages from the first that changes on
abbrev pub pairs_of : Geom → Resized → List Pair
pairs_of g r = body_pair g r.body ∷ map (ptr_pair g) (pages_of r.blocks.list.items (pointers_from r.body r.first))

abbrev pub redo_of : Geom → Resized → Redo
redo_of g r = record { pairs = record { items = put_all_in r.maps.pairs.items (pairs_of g r) } }

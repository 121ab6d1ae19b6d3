-- How a file shrinks, as a planner finds it out.
use Rattle.std.specs.Prelude.{ℕ, ◌/◌, ◌%◌, [], take, drop, Result, Ok}
use Rattle.ds_base.specs.declared.geometry.Geom.{Geom}
use Rattle.ds_base.specs.declared.geometry.Kind.TheVariants.{Pb, Fb}
use Rattle.ds_fd.specs.declared.body.Body.{Body}
use Rattle.ds_image_parts.specs.Parts.{Parts}
use Rattle.ds_image.specs.SeenValues.{SeenValue}
use Rattle.ds_jrnl.specs.declared.redo.Redo.{Redo}
use Rattle.ds_layout.specs.Places.{place_sector}
use Rattle.ds_layout.specs.declared.places.Place.TheVariants as places
use Rattle.ds_plan_base.specs.Giving.{given_up}
use Rattle.ds_plan_base.specs.Steps.{after}
use Rattle.ds_plan_base.specs.declared.stops.Stop.{Stop}
use Rattle.ds_plan_resize.specs.Blocks.{blocks_of, blocks_seen, pointers_in, pointers_from}
use Rattle.ds_plan_resize.specs.Redos.{body_sized, used_by}
use Rattle.ds_plan_resize.specs.declared.blocks.Blocks.{Blocks}
use Rattle.ds_plan_resize.specs.declared.resized.Resized.{Resized}
use Rattle.ds_tree.specs.Counts.{pointer_blocks}

-- the file with the first of its blocks, and of its pointer blocks
abbrev pub shrunk : Body → ℕ → Blocks → Redo → Resized
shrunk b size old maps = record {
  body = body_sized b size (used_by size (take (size % 128) old.list.items) (take (pointer_blocks size) (pointers_in b)));
  first = size / 128;
  blocks = blocks_of (take (size % 128) old.list.items);
  maps = maps;
}

-- nothing is written yet
abbrev pub no_maps : Redo
no_maps = record { pairs = record { items = [] } }

-- it is known once the pages were read of which blocks are given up, and then the pointer blocks are given up that it needs no
-- more, and then the blocks
abbrev pub shrink_known : Geom → SeenValue → Parts → Body → ℕ → Result Resized Stop
shrink_known g seen p b size =
    after (blocks_seen g seen p b (size / 128)) (λ old.
    after (given_up g seen p Pb (pointers_from b (pointer_blocks size)) (place_sector g (places.Body b.object)) no_maps) (λ pointer_maps.
    after (given_up g seen p Fb (drop (size % 128) old.list.items) (place_sector g (places.Body b.object)) pointer_maps) (λ maps.
    Ok (shrunk b size old maps))))

-- How a file grows, as a planner finds it out.
use Rattle.std.specs.Prelude.{ℕ, ◌-◌, ◌/◌, ◌++◌, Result, Ok}
use Rattle.ds_base.specs.declared.geometry.Geom.{Geom}
use Rattle.ds_base.specs.declared.geometry.Kind.TheVariants.{Pb, Fb}
use Rattle.ds_fd.specs.declared.body.Body.{Body}
use Rattle.ds_image_parts.specs.Parts.{Parts}
use Rattle.ds_image.specs.SeenValues.{SeenValue}
use Rattle.ds_plan_base.specs.Steps.{after}
use Rattle.ds_plan_base.specs.declared.stops.Stop.{Stop}
use Rattle.ds_plan_resize.specs.Blocks.{blocks_of, blocks_seen, pointers_in}
use Rattle.ds_plan_resize.specs.Ordered.{in_order, put_all_in}
use Rattle.ds_plan_resize.specs.Redos.{body_sized, used_by}
use Rattle.ds_plan_resize.specs.Taking.{items_wanted}
use Rattle.ds_plan_resize.specs.declared.blocks.Blocks.{Blocks}
use Rattle.ds_plan_resize.specs.declared.resized.Resized.{Resized}
use Rattle.ds_plan_resize.specs.declared.taking.Taken.{Taken}
use Rattle.ds_tree.specs.Counts.{pointer_blocks}

-- the file with its last blocks, and behind them the new ones
abbrev pub grown : Body → ℕ → Blocks → Taken → Taken → Resized
grown b size old added fresh = record {
  body = body_sized b size (used_by size (old.list.items ++ added.numbers.items) (pointers_in b ++ fresh.numbers.items));
  first = b.count / 128;
  blocks = blocks_of (old.list.items ++ added.numbers.items);
  maps = record { pairs = record { items = put_all_in (in_order fresh.maps.items) added.maps.items } };
}

-- it is known once its last page was read where that is partly filled, then the blocks are that it gets, and then the pointer blocks
abbrev pub growth_known : Geom → ℕ → SeenValue → Parts → Body → ℕ → Result Resized Stop
growth_known g slot seen p b size =
    after (blocks_seen g seen p b (b.count / 128)) (λ old.
    after (items_wanted g slot seen p Fb (size - b.count)) (λ added.
    after (items_wanted g slot seen p Pb (pointer_blocks size - pointer_blocks b.count)) (λ fresh.
    Ok (grown b size old added fresh))))

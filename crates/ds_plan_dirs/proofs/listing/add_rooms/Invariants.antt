-- The entries in the rooms so far are added and counted.
use Rattle.std.proofs.Common.{◌≡◌, ◌≤◌, ◌++◌, List, length, take}
use Rattle.std.specs.List.{filter_map}
use Rattle.ds_dir.specs.declared.sub_block.Entry.{Entry}
use Rattle.ds_plan_dirs.specs.Pages.{page_names}
use Rattle.ds_plan_dirs.proofs.listing.add_rooms.Given as goal

abbrev pub invariant-loop-room : goal.invariant-loop-room
invariant-loop-room l = record {
  count : l.count ≡ length (filter_map (λ room. room) (take l.room-index l.rooms));
  most : l.count ≤ l.room-index;
  names : (es : List Entry) → l.fn.names.items ≡ page_names l.after es
      → l.names.items ≡ page_names l.after (es ++ filter_map (λ room. room) (take l.room-index l.rooms));
}

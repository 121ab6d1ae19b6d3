-- The names in the rooms so far are counted.
use Rattle.std.proofs.Common.{◌≡◌, ◌<◌, ◌+◌, ◌-◌, ◌^◌, ℕ, List, ◌++◌, length, take}
use Rattle.std.specs.List.{filter_map}
use Rattle.ds_image_tables.specs.NameCounts.{CountsNames}
use Rattle.ds_check.specs.Names.{named_in}
use Rattle.ds_check.proofs.names.count_rooms.Given as goal

abbrev pub invariant-loop-room : goal.invariant-loop-room
invariant-loop-room l = record {
  count : length l.counts ≡ length l.initial.counts;
  counted : (named : List ℕ) → length named + length l.rooms < 2 ^ 64 - 1 → CountsNames l.initial.counts named
      → CountsNames l.counts (named ++ filter_map (named_in l.parts) (take l.room-index l.rooms));
}

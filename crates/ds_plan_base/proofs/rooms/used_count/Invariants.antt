-- The used rooms so far are counted.
use Rattle.std.proofs.Common.{◌≡◌, ◌≤◌, take}
use Rattle.ds_plan_base.specs.Rooms.{used_count}
use Rattle.ds_plan_base.proofs.rooms.used_count.Given as goal

abbrev pub invariant-loop-room : goal.invariant-loop-room
invariant-loop-room l = record {
  count : l.count ≡ used_count (take l.room-index l.rooms);
  most : l.count ≤ l.room-index;
}

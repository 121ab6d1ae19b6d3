-- No room so far is free.
use Rattle.std.proofs.Common.{◌≡◌, drop}
use Rattle.ds_plan_base.specs.Rooms.{first_room}
use Rattle.ds_plan_base.proofs.rooms.first_room.Given as goal

abbrev pub invariant-loop-room : goal.invariant-loop-room
invariant-loop-room l = first_room 0 l.rooms ≡ first_room l.room (drop l.room l.rooms)

-- The rooms so far stand behind the others.
use Rattle.std.proofs.Common.{◌≡◌, ◌++◌, take}
use Rattle.ds_check.proofs.rooms.push_rooms.Given as goal

abbrev pub invariant-loop-room : goal.invariant-loop-room
invariant-loop-room l = l.rooms.items ≡ l.fn.rooms.items ++ take l.room-index l.more

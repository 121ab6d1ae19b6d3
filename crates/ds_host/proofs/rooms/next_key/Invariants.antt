use Rattle.std.proofs.Common.{◌≡◌, ◌+◌, ◌≤◌, length, take}
use Rattle.ds_host.specs.Rooms.{entries_in}
use Rattle.ds_host.proofs.rooms.next_key.Given as goal

abbrev pub invariant-loop-room : goal.invariant-loop-room
invariant-loop-room l = (l.object ≡ 1 + length (entries_in (take l.room-index l.rooms))) × (l.object ≤ 1 + l.room-index)

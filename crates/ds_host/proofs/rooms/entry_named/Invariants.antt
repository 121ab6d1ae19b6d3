use Rattle.std.proofs.Common.{◌≡◌, drop}
use Rattle.ds_host.specs.Rooms.{entry_named}
use Rattle.ds_host.proofs.rooms.entry_named.Given as goal

abbrev pub invariant-loop-room : goal.invariant-loop-room
invariant-loop-room l = entry_named l.name (drop l.room-index l.rooms) ≡ entry_named l.name l.rooms

-- The entries of the rooms so far stand behind the others.
use Rattle.std.proofs.Common.{◌≡◌, ◌++◌, take}
use Rattle.std.specs.List.{filter_map}
use Rattle.ds_image_parts.proofs.listings.push_entries.Given as goal

abbrev pub invariant-loop-room : goal.invariant-loop-room
invariant-loop-room l = l.entries.items ≡ l.fn.entries.items ++ filter_map (λ room. room) (take l.room-index l.rooms)

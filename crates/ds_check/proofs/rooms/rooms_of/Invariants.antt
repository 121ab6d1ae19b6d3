-- The rooms so far are those of the sub-blocks so far, at most four each.
use Rattle.std.proofs.Common.{◌≡◌, ◌≤◌, ◌*◌, length, take}
use Rattle.ds_image_parts.specs.Objects.{rooms_of}
use Rattle.ds_check.proofs.rooms.rooms_of.Given as goal

abbrev pub invariant-loop-number : goal.invariant-loop-number
invariant-loop-number l = record {
  exact : l.rooms.items ≡ rooms_of l.parts (take l.number-index l.subs);
  few : length l.rooms.items ≤ 4 * l.number-index;
}

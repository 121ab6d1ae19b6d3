-- The names in the directories so far are counted.
use Rattle.std.proofs.Common.{◌≡◌, ◌≤◌, ◌*◌, length}
use Rattle.ds_image_tables.specs.NameCounts.{CountsNames}
use Rattle.ds_check.proofs.NamedRooms.{named_below}
use Rattle.ds_check.proofs.names.count_names.Given as goal

abbrev pub invariant-loop-object : goal.invariant-loop-object
invariant-loop-object l = record {
  count : length l.counts ≡ l.count;
  few : length (named_below l.parts l.object) ≤ 384 * l.object;
  counted : CountsNames l.counts (named_below l.parts l.object);
}

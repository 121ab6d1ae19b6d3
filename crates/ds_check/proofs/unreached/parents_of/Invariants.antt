-- The parents are those of the directories so far.
use Rattle.std.proofs.Common.{◌≡◌, length}
use Rattle.ds_check.specs.Unreached.{AreNamers}
use Rattle.ds_check.proofs.unreached.parents_of.Given as goal

abbrev pub invariant-loop-dir : goal.invariant-loop-dir
invariant-loop-dir l = record {
  count : length l.parents.items ≡ l.count;
  namers : AreNamers l.parts l.dir l.parents.items;
}

use Rattle.std.proofs.Common.{◌≡◌, ◌*◌, ◌++◌, length, drop}
use Rattle.ds_target.specs.Blocks.{bytes_from}
use Rattle.ds_target.proofs.transfers.read_blocks.Given as goal

abbrev pub invariant-loop-i : goal.invariant-loop-i
invariant-loop-i l = record {
  so_far : l.into ≡ bytes_from l.lun.sectors l.at l.i ++ drop (512 * l.i) l.initial.into;
  whole : length (bytes_from l.lun.sectors l.at l.i) ≡ 512 * l.i;
}

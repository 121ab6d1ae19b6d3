use Rattle.std.proofs.Common.{◌≡◌, ◌≤◌, ◌+◌}
use Rattle.ds_target.specs.Blocks.{images_in, overwritten}
use Rattle.ds_target.proofs.transfers.write_blocks.Given as goal

abbrev pub invariant-loop-i : goal.invariant-loop-i
invariant-loop-i l = record {
  so_far : l.lun.sectors ≡ overwritten l.initial.lun.sectors l.at (images_in l.i l.out);
  room : l.initial.lun.spare ≤ l.lun.spare + l.i;
}

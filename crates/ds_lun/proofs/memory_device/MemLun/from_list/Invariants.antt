use Rattle.ds_lun.proofs.KeptSectors.{AgreeBelow}
use Rattle.ds_lun.proofs.memory_device.MemLun.from_list.Given as goal

abbrev pub invariant-loop-at : goal.invariant-loop-at
invariant-loop-at l = AgreeBelow l.fn.sectors.items l.lun.sectors l.at

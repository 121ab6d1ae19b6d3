use Rattle.std.proofs.Common.{sym, ap, ◌∙◌}
use Rattle.std.specs.Prelude.{Some}
use Rattle.ds_lun.proofs.KeptSectors.{is_zero_sector}
use Rattle.ds_lun.proofs.memory_device.MemLun.sector.Goals as goal

pub returns-in-None : goal.returns-in-None
returns-in-None c = c.in-None.ensures ∙ ap Some (sym (is_zero_sector _ c.zero.ensures))

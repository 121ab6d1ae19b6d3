use Rattle.std.proofs.Common.{length, sym, ap, ◌∙◌}
use Rattle.ds_lun.specs.Devices.{DeviceValue}
use Rattle.ds_lun.proofs.KeptSectors.{length-sectors_of}
use Rattle.ds_lun.proofs.memory_device.MemLun.len.Goals as goal

pub returns : goal.returns
returns c = sym (length-sectors_of _ _) ∙ ap (λ (device : DeviceValue). length device.sectors) c.self.view_is

use Rattle.std.proofs.Common.{◌<◌, ◌≤◌, length, refl, ap, ◌∙◌, arith}
use Rattle.std.specs.Prelude.{None, slice_set, nat_eq}
use Rattle.std.specs.HashMap.{get}
use Rattle.ds_base.specs.declared.sectors.Sector.{Sector}
use Rattle.ds_lun.specs.Devices.{DeviceValue, zero_sector, held_in}
use Rattle.ds_lun.proofs.KeptSectors.{set_in_front, put_beyond, length-sectors_of, is_zero_sector}
use Rattle.ds_lun.proofs.memory_device.MemLun.zero.Goals as goal

pub returns-then-at-len-clause-sectors : goal.returns-then-at-len-clause-sectors
returns-then-at-len-clause-sectors c =
    let front = c.self.inside.front.items in
    let kept = get nat_eq c.self.inside.kept in
    let there : c.args.at < c.self.inside.len = omega (arith, ap (λ (device : DeviceValue). length device.sectors) c.self.view_is, length-sectors_of (held_in front kept) c.self.inside.len) in
    let within : c.args.at < length front = omega arith in
    set_in_front front kept c.self.inside.len c.args.at c.zero.result there within
    ∙ ap (λ (device : DeviceValue). slice_set device.sectors c.args.at c.zero.result) c.self.view_is
    ∙ ap (λ (s : Sector). slice_set c.args.self.now.sectors c.args.at s) (is_zero_sector _ c.zero.ensures)

pub returns-clause-sectors : goal.returns-clause-sectors
returns-clause-sectors c =
    let front = c.self.inside.front.items in
    let kept = get nat_eq c.self.inside.kept in
    let there : c.args.at < c.self.inside.len = omega (arith, ap (λ (device : DeviceValue). length device.sectors) c.self.view_is, length-sectors_of (held_in front kept) c.self.inside.len) in
    let past : length front ≤ c.args.at = omega arith in
    put_beyond front kept _ c.self.inside.len c.args.at None zero_sector there past c.remove.ensures.updates.0 refl
    ∙ ap (λ (device : DeviceValue). slice_set device.sectors c.args.at zero_sector) c.self.view_is

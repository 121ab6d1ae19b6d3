use Rattle.std.proofs.Common.{◌<◌, ◌≤◌, length, refl, sym, ap, ◌∙◌, arith}
use Rattle.std.specs.Prelude.{Option, Some, nat_eq, option_copied}
use Rattle.std.specs.Option.{option_or}
use Rattle.std.specs.HashMap.{get}
use Rattle.std.proofs.lemmas.Option.{slice_get-get_or, slice_get_past}
use Rattle.ds_base.specs.declared.sectors.Sector.{Sector}
use Rattle.ds_lun.specs.Devices.{DeviceValue, held_in}
use Rattle.ds_lun.proofs.KeptSectors.{sector_of}
use Rattle.ds_lun.proofs.memory_device.MemLun.held.Goals as goal

pub returns-then-at-len : goal.returns-then-at-len
returns-then-at-len c =
    let front = c.self.inside.front.items in
    let within : c.args.at < length front = omega arith in
    sector_of (held_in front (get nat_eq c.self.inside.kept)) c.self.inside.len c.args.at c.args.self.now.sectors (Some c.index.result.now) c.index.result.now
    (ap (λ (device : DeviceValue). device.sectors) c.self.view_is) c.requires
    (sym (ap (λ (o : Option Sector). option_or o (get nat_eq c.self.inside.kept c.args.at)) (slice_get-get_or front c.args.at c.index.result.now within ∙ ap Some (sym c.index.ensures))))
    refl

pub returns : goal.returns
returns c =
    let front = c.self.inside.front.items in
    let past : length front ≤ c.args.at = omega arith in
    sector_of (held_in front (get nat_eq c.self.inside.kept)) c.self.inside.len c.args.at c.args.self.now.sectors (option_copied c.get.result) _
    (ap (λ (device : DeviceValue). device.sectors) c.self.view_is) c.requires
    (c.get.ensures.value ∙ sym (ap (λ (o : Option Sector). option_or o (get nat_eq c.self.inside.kept c.args.at)) (slice_get_past front c.args.at past)))
    refl

use Rattle.std.proofs.Common.{ℕ, ◌<◌, List, length, ap, sym, subst, ◌∙◌, arith}
use Rattle.std.specs.Prelude.{Some, slice_set}
use Rattle.std.proofs.lemmas.List.{length-replicate}
use Rattle.std.proofs.lemmas.Option.{slice_get-get_or}
use Rattle.ds_base.specs.declared.sectors.Sector.{Sector}
use Rattle.ds_lun.specs.Devices.{zero_sector}
use Rattle.ds_lun.proofs.KeptSectors.{AgreeBelow, agree_more, agree_all}
use Rattle.ds_lun.proofs.memory_device.MemLun.from_list.Goals as goal

pub loop-at-init : goal.loop-at-init
loop-at-init c = record {
  long = omega (arith, ap (λ (sectors : List Sector). length sectors) c.in_ok-lun.ensures, length-replicate c.len-len.result zero_sector);
  same = λ k less. absurd (omega (arith, less));
}

pub loop-at-preserved : goal.loop-at-preserved
loop-at-preserved c =
    let within : c.loop-at.at < length c.args.sectors.items = omega arith in
    agree_more c.args.sectors.items c.loop-at.lun.sectors c.put.new.self.sectors c.loop-at.at c.index.result.now
    (slice_get-get_or c.args.sectors.items c.loop-at.at c.index.result.now within ∙ ap Some (sym c.index.ensures)) within
    (c.put.ensures.sectors ∙ ap (λ (sectors : List Sector). slice_set sectors c.loop-at.at c.index.result.now) c.in_ok-make_room.ensures.sectors)
    c.loop-at.invariant

pub returns : goal.returns
returns c =
    let P : ℕ → Type 0 = λ n. AgreeBelow c.args.sectors.items c.loop-at.lun.sectors n in
    agree_all c.args.sectors.items c.loop-at.lun.sectors (subst P (omega arith) c.loop-at.invariant)

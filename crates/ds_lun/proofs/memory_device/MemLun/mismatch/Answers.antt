use Rattle.std.proofs.Common.{sym, ap, ◌∙◌}
use Rattle.std.specs.Prelude.{Some}
use Rattle.ds_lun.proofs.KeptSectors.{is_zero_sector, told_of}
use Rattle.ds_lun.proofs.memory_device.MemLun.mismatch.Goals as goal

pub returns-in-None-clause-first : goal.returns-in-None-clause-first
returns-in-None-clause-first c =
    told_of c.args.self.now.sectors c.args.at c.zero.result c.args.verify.now c.first_difference-in-None.result
    (c.in-None.ensures ∙ ap Some (sym (is_zero_sector _ c.zero.ensures)))
    c.first_difference-in-None.ensures.first

use Rattle.std.proofs.Common.{sym, ap, ◌∙◌}
use Rattle.std.specs.Prelude.{Some}
use Rattle.ds_base.specs.declared.commands.Command.TheVariants.{Read, Swap}
use Rattle.ds_base.specs.declared.commands.Response.TheVariants.{Got, Miscompare}
use Rattle.ds_base.proofs.DeviceLaws.{one_answer}
use Rattle.ds_lun.proofs.KeptSectors.{is_zero_sector}
use Rattle.ds_lun.proofs.memory_device.MemLun.do_command.Goals as goal

pub returns-in-None-clause-answer : goal.returns-in-None-clause-answer
returns-in-None-clause-answer c = rw c.in-Read.is (c.in-None.ensures ∙ ap Some (sym (is_zero_sector _ c.zero.ensures)))

pub returns-in-None-clause-only : goal.returns-in-None-clause-only
returns-in-None-clause-only c =
    rw c.in-Read.is
    (one_answer c.args.self.now.sectors (Read c.in-Read.at) (Got c.zero.result) (c.in-None.ensures ∙ ap Some (sym (is_zero_sector _ c.zero.ensures))))

pub returns-in-Some-mismatch-clause-only : goal.returns-in-Some-mismatch-clause-only
returns-in-Some-mismatch-clause-only c =
    rw c.in-Swap.is
    (one_answer c.args.self.now.sectors (Swap c.in-Swap.at c.in-Swap.verify c.in-Swap.fresh) (Miscompare c.in-Some-mismatch.offset) c.in-Some-mismatch.ensures.first)

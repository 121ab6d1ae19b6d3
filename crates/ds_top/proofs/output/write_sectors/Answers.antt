use Rattle.ds_top.proofs.SectorLaws.{IsFrontWritten-next, part_written}
use Rattle.ds_top.proofs.output.write_sectors.Goals as goal

pub returns-in-Err-clause-part : goal.returns-in-Err-clause-part
returns-in-Err-clause-part g c =
    part_written _ _ _ _ _ c.args.sectors.now c.sectors.left.now c.in-Some.rest.now c.in-Some.first.now c.sectors.invariant c.in-Some.ensures.cases.0 c.in-Err.ensures.part

pub sectors-preserved : goal.sectors-preserved
sectors-preserved g c =
    IsFrontWritten-next _ _ _ _ _ _ c.args.sectors.now c.sectors.left.now c.in-Some.rest.now c.in-Some.first.now c.sectors.invariant c.in-Some.ensures.cases.0 c.in-Ok.ensures.ok
    c.write_all.ensures.faults

use Rattle.std.proofs.Common.{◌<◌, [], length, arith, ◌∙◌}
use Rattle.ds_base.specs.declared.commands.Response.TheVariants.{Got}
use Rattle.ds_base.proofs.DeviceLaws.{one_answer}
use Rattle.ds_target.proofs.Singles.{read_one, write_one, swap_one, swap_one_answers, reads_one, writes_one, swaps_one}
use Rattle.ds_target.proofs.sending.send.Goals as goal

pub returns-in-Done-clause-answer : goal.returns-in-Done-clause-answer
returns-in-Done-clause-answer c =
    let within : c.in-Read.at < length c.args.lun.now.sectors = rw c.in-Read.is at c.requires.there in
    let is = rw c.in-Read.is at c.cdb_of-cdb.ensures.reads in
    rw c.in-Read.is
    (read_one c.args.lun.now.sectors c.in-Read.at _ _ _ _ c.execute-reply.result within is (omega arith)
    c.execute-reply.ensures.reply c.execute-reply.ensures.data_in)

pub returns-in-Write-clause-stored : goal.returns-in-Write-clause-stored
returns-in-Write-clause-stored c =
    let within : c.in-Write.at < length c.args.lun.now.sectors = rw c.in-Write.is at c.requires.there in
    let is = rw c.in-Write.is at c.cdb_of-cdb.ensures.reads in
    rw c.in-Write.is
    (c.execute.ensures.sectors ∙ write_one c.args.lun.now.sectors c.in-Write.at _ c.in-Write.fresh within is (omega arith))

pub returns-in-Swap-clause-stored : goal.returns-in-Swap-clause-stored
returns-in-Swap-clause-stored c =
    let within : c.in-Swap.at < length c.args.lun.now.sectors = rw c.in-Swap.is at c.requires.there in
    let is = rw c.in-Swap.is at c.cdb_of-cdb.ensures.reads in
    rw c.in-Swap.is
    (c.execute-in-Swap.ensures.sectors
    ∙ swap_one c.args.lun.now.sectors c.in-Swap.at _ c.put_instances.new.out c.in-Swap.verify c.in-Swap.fresh
    within is c.put_instances.ensures.front c.put_instances.ensures.back (omega arith))

pub returns-in-Swap-clause-answer : goal.returns-in-Swap-clause-answer
returns-in-Swap-clause-answer c =
    let within : c.in-Swap.at < length c.args.lun.now.sectors = rw c.in-Swap.is at c.requires.there in
    let is = rw c.in-Swap.is at c.cdb_of-cdb.ensures.reads in
    rw c.in-Swap.is
    (swap_one_answers c.args.lun.now.sectors c.in-Swap.at _ c.put_instances.new.out c.in-Swap.verify c.in-Swap.fresh
    c.execute-in-Swap.result c.response_to-in-Swap.result within is c.put_instances.ensures.front
    c.execute-in-Swap.ensures.reply c.response_to-in-Swap.ensures.done c.response_to-in-Swap.ensures.mismatch)

pub returns-in-Done-clause-spare : goal.returns-in-Done-clause-spare
returns-in-Done-clause-spare c =
    let is = rw c.in-Read.is at c.cdb_of-cdb.ensures.reads in
    rw c.in-Read.is
    (omega (arith, c.execute-reply.ensures.spare, reads_one c.args.lun.now.sectors c.in-Read.at _ [] is))

pub returns-in-Write-clause-spare : goal.returns-in-Write-clause-spare
returns-in-Write-clause-spare c =
    let within : c.in-Write.at < length c.args.lun.now.sectors = rw c.in-Write.is at c.requires.there in
    let is = rw c.in-Write.is at c.cdb_of-cdb.ensures.reads in
    rw c.in-Write.is
    (omega (arith, c.execute.ensures.spare, writes_one c.args.lun.now.sectors c.in-Write.at _ c.in-Write.fresh.bytes within is))

pub returns-in-Swap-clause-spare : goal.returns-in-Swap-clause-spare
returns-in-Swap-clause-spare c =
    let within : c.in-Swap.at < length c.args.lun.now.sectors = rw c.in-Swap.is at c.requires.there in
    let is = rw c.in-Swap.is at c.cdb_of-cdb.ensures.reads in
    rw c.in-Swap.is
    (omega (
      arith,
      c.execute-in-Swap.ensures.spare,
      swaps_one c.args.lun.now.sectors c.in-Swap.at _ c.put_instances.new.out c.in-Swap.verify c.in-Swap.fresh within is c.put_instances.ensures.front,
    ))

pub returns-in-Done-clause-only : goal.returns-in-Done-clause-only
returns-in-Done-clause-only c =
    one_answer c.args.lun.now.sectors c.args.command.now (Got (record { bytes = c.execute-reply.new.into })) (returns-in-Done-clause-answer c)

pub returns-in-Swap-clause-only : goal.returns-in-Swap-clause-only
returns-in-Swap-clause-only c =
    one_answer c.args.lun.now.sectors c.args.command.now c.response_to-in-Swap.result (returns-in-Swap-clause-answer c)

use Rattle.std.proofs.Common.{arith, sym}
use Rattle.ds_base.specs.declared.sectors.Sector.{Sector}
use Rattle.ds_target.specs.Blocks.{images_in}
use Rattle.ds_target.proofs.Runs.{overwritten_none, write_turn}
use Rattle.ds_target.proofs.transfers.write_blocks.Goals as goal

pub loop-i-init : goal.loop-i-init
unfolding images_in
loop-i-init c = record { so_far = sym (overwritten_none c.args.lun.now.sectors c.args.at); room = omega arith }

pub loop-i-preserved : goal.loop-i-preserved
loop-i-preserved c =
    let fresh : Sector = record { bytes = c.copy_from_slice.new.self } in
    record {
      so_far = write_turn c.args.lun.now.sectors c.args.at c.loop-i.i c.args.out.now fresh _ _
          (omega arith) c.copy_from_slice.ensures.after c.loop-i.invariant.so_far c.do_command.ensures.stored;
      room = omega (arith, c.loop-i.invariant.room, c.do_command.ensures.spare);
    }

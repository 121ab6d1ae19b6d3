use Rattle.std.proofs.Common.{◌≡◌, length, arith, ◌∙◌, ap}
use Rattle.ds_target.proofs.Runs.{read_turn, length-bytes_from_more}
use Rattle.ds_target.proofs.transfers.read_blocks.Goals as goal

pub loop-i-preserved : goal.loop-i-preserved
loop-i-preserved c =
    let long : length c.sector-sector.result.bytes ≡ 512 = omega arith in
    record {
      so_far = read_turn c.args.lun.now.sectors c.args.at c.loop-i.i c.sector-sector.result c.args.into.now _ _
          c.sector-sector.ensures (ap length c.copy_from_slice.ensures.after ∙ long) c.copy_from_slice.ensures.after
          c.loop-i.invariant.so_far c.loop-i.invariant.whole;
      whole = length-bytes_from_more c.args.lun.now.sectors c.args.at c.loop-i.i c.sector-sector.result
          c.sector-sector.ensures long c.loop-i.invariant.whole;
    }

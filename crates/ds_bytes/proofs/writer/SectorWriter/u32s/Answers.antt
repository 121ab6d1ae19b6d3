use Rattle.std.proofs.Common.{refl, arith}
use Rattle.ds_bytes.proofs.Written.{one_more, none_yet}
use Rattle.ds_bytes.proofs.writer.SectorWriter.u32s.Goals as goal

pub loop-n-init : goal.loop-n-init
loop-n-init c = (none_yet c.args.self.now c.args.ns.now, omega arith)

pub loop-n-preserved : goal.loop-n-preserved
loop-n-preserved c =
    (one_more c.args.self.now c.loop-n.self c.u32.new.self c.args.ns.now c.loop-n.n-index _ (omega arith) c.loop-n.invariant.0 c.u32.ensures.items refl, omega arith)

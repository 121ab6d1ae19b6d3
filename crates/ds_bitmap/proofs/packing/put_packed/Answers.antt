use Rattle.std.proofs.Common.{arith}
use Rattle.ds_bitmap.proofs.Packed.{packed_more, packed_none}
use Rattle.ds_bitmap.proofs.packing.put_packed.Goals as goal

pub loop-k-init : goal.loop-k-init
loop-k-init c = record { items = packed_none c.args.writer.now c.args.used.now; len = omega arith }

pub loop-k-preserved : goal.loop-k-preserved
loop-k-preserved c = record {
  items = packed_more c.args.writer.now c.loop-k.writer c.u8.new.self c.args.used.now c.loop-k.k c.packed_byte.result c.loop-k.invariant.items c.u8.ensures.items c.packed_byte.ensures;
  len = omega arith;
}

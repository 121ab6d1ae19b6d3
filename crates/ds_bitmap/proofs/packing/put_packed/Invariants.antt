use Rattle.std.proofs.Common.{◌≡◌, ◌+◌, ◌++◌, length}
use Rattle.ds_bitmap.specs.Bits.{packed}
use Rattle.ds_bitmap.proofs.packing.put_packed.Given as goal

abbrev pub invariant-loop-k : goal.invariant-loop-k
invariant-loop-k l =
    record {
      items : l.writer ≡ l.initial.writer ++ packed l.k l.used;
      len : length l.writer ≡ length l.initial.writer + l.k;
    }

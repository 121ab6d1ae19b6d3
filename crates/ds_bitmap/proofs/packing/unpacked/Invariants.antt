use Rattle.std.proofs.Common.{◌≡◌, ℕ, ◌<◌, false, length, slice_index_or}
use Rattle.ds_bitmap.specs.BitsParts.{bit_at}
use Rattle.ds_bitmap.proofs.packing.unpacked.Given as goal

abbrev pub invariant-loop-i : goal.invariant-loop-i
invariant-loop-i l =
    record {
      each : (k : ℕ) → k < l.i → slice_index_or l.used k false ≡ bit_at l.bytes k;
      len : length l.used ≡ 3840;
    }

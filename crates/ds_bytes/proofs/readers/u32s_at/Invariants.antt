use Rattle.std.proofs.Common.{◌≡◌, ◌+◌, ◌*◌, ◌^◌, ◌++◌, take}
use Rattle.ds_bytes.specs.Fields.{littles, front, AllBelow}
use Rattle.ds_bytes.proofs.readers.u32s_at.Given as goal

abbrev pub invariant-loop-i : goal.invariant-loop-i
invariant-loop-i l = record {
  read : front (l.at + 4 * l.i) l.bytes ≡ front l.at l.bytes ++ littles 4 (take l.i l.out);
  below : AllBelow (2 ^ 32) (take l.i l.out);
}

use Rattle.std.proofs.Common.{◌≡◌, ◌+◌, ◌*◌, ◌++◌, length, take}
use Rattle.ds_bytes.specs.Fields.{littles}
use Rattle.ds_bytes.proofs.writer.SectorWriter.u32s.Given as goal

abbrev pub invariant-loop-n : goal.invariant-loop-n
invariant-loop-n l =
    (l.self ≡ l.initial.self ++ littles 4 (take l.n-index l.ns)) × (length l.self ≡ length l.initial.self + 4 * l.n-index)

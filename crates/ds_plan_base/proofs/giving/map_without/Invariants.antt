-- The items so far are no longer used.
use Rattle.std.proofs.Common.{◌≡◌, drop}
use Rattle.ds_bitmap.specs.Bits.{IsBits}
use Rattle.ds_plan_base.specs.Giving.{map_without}
use Rattle.ds_plan_base.proofs.giving.map_without.Given as goal

abbrev pub invariant-loop-number : goal.invariant-loop-number
invariant-loop-number l = record {
  known : map_without l.fn.geom l.fn.kind l.fn.cluster l.fn.items l.fn.map ≡ map_without l.fn.geom l.fn.kind l.fn.cluster (drop l.number-index l.fn.items) l.left;
  is_bits : IsBits l.fn.geom l.fn.kind l.fn.cluster l.left;
}

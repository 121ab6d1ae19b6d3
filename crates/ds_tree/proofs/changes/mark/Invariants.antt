use Rattle.std.proofs.Common.{◌≡◌, ℕ, ◌<◌, false, length, take, nat_eq, slice_index_or}
use Rattle.std.specs.Prelude.{◌||◌}
use Rattle.std.specs.List.{list_any}
use Rattle.ds_tree.proofs.changes.mark.Given as goal

abbrev pub invariant-loop-block : goal.invariant-loop-block
invariant-loop-block l = (length l.used.items ≡ length l.initial.used.items) × ((b : ℕ) → b < length l.used.items → slice_index_or l.used.items b false ≡ (slice_index_or l.initial.used.items b false || list_any (nat_eq b) (take l.block-index l.blocks)))
